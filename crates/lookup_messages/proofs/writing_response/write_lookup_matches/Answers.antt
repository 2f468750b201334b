use Rattle.std.proofs.Common.{ap, ◌∙◌, arith}
use Rattle.serde_json.specs.View.{view}
use Rattle.serde_json.specs.Written.{has_float, compact_text}
use Rattle.lookup_messages.specs.Reading.{ReadsLookupResponse}
use Rattle.lookup_messages.specs.Writing.{lookup_response_written, spelling_of_lookup_response}
use Rattle.lookup_messages.proofs.Depths.{response_depth}
use Rattle.lookup_messages.proofs.Floats.{response_has_none}
use Rattle.lookup_messages.proofs.OneReading.{response_one}
use Rattle.lookup_messages.proofs.ResponseAgain.{response_again}
use Rattle.lookup_messages.proofs.TextsAgain.{text_again, no_other}
use Rattle.lookup_messages.proofs.writing_response.write_lookup_matches.Goals as goal

pub returns-clause-spelling : goal.returns-clause-spelling
unfolding spelling_of_lookup_response
returns-clause-spelling c =
    c.from_vec.ensures ∙ ap (λ v. v.items) c.into_bytes.ensures.value
    ∙ c.in_ok-text.ensures.text (ap has_float c.in_ok-value.ensures.value ∙ response_has_none c.members_are_as_their_values.ensures.floats c.args.message.now)
    ∙ ap compact_text c.in_ok-value.ensures.value

pub returns-clause-read_again : goal.returns-clause-read_again
returns-clause-read_again c =
    text_again ReadsLookupResponse c.in_ok-text.text c.from_vec.result (view c.in_ok-value.value) (lookup_response_written c.args.message.now) c.args.message.now
    (c.from_vec.ensures ∙ ap (λ v. v.items) c.into_bytes.ensures.value) c.in_ok-value.ensures.value (omega (arith, response_depth c.members_are_as_their_values.ensures.depths c.args.message.now))
    c.in_ok-text.ensures.reads_back (response_again c.written_members_read_again.ensures c.args.message.now c.in_ok-value.ensures.range)

pub returns-clause-no_other : goal.returns-clause-no_other
returns-clause-no_other c = no_other ReadsLookupResponse response_one c.from_vec.result c.args.message.now (returns-clause-read_again c)

use Rattle.std.proofs.Common.{◌≡◌, ◌∙◌, ◌<◌, sym, ap, ap₂, ℕ, List, length, None, lit<, lt-ltb, le-ltb, le_refl, nat_lt, if◌then◌else◌}
use Rattle.std.specs.List.{position_or_len, before_first, after_first}
use Rattle.std.proofs.lemmas.Str.Pattern.{split_once_first}
use Rattle.sb_words.specs.Values.{host_and_port, host_port_of, is_colon}
use Rattle.sb_words.proofs.Barring.{any_is}
use Rattle.sb_words.proofs.values.host_port.Goals as goal

no_colon : (text : List ℕ) → position_or_len is_colon text ≡ length text → None ≡ host_port_of text
unfolding host_port_of
no_colon text e =
    sym (ap (λ b. if b then host_and_port (before_first is_colon text) (after_first is_colon text) else None)
    (any_is is_colon text ∙ ap (λ n. nat_lt n (length text)) e ∙ le-ltb (length text) (length text) (le_refl (length text))))

a_colon : (text host port : List ℕ) → position_or_len is_colon text < length text → host ≡ before_first is_colon text → port ≡ after_first is_colon text
    → host_and_port host port ≡ host_port_of text
unfolding host_port_of
a_colon text host port lt h p =
    ap₂ host_and_port h p
    ∙ sym (ap (λ b. if b then host_and_port (before_first is_colon text) (after_first is_colon text) else None)
    (any_is is_colon text ∙ lt-ltb (position_or_len is_colon text) (length text) lt))

pub returns-in_default : goal.returns-in_default
returns-in_default c =
    let cut = split_once_first 58 c.args.text.now c.split_once.result c.split_once.ensures.cases (lit< tt) in
    no_colon c.args.text.now (rw c.in_default.is at cut)

pub returns : goal.returns
returns c =
    let cut = split_once_first 58 c.args.text.now c.split_once.result c.split_once.ensures.cases (lit< tt) in
    let parts = rw c.in-Some.is at cut in
    c.address.ensures ∙ a_colon c.args.text.now c.in-Some.host.now c.in-Some.port.now parts.0 parts.1 parts.2

-- What a replay that ended says of its input and its output.
use Rattle.std.proofs.Common.{◌≡◌, ℕ, inl, inr, List, Bool, map, sym, subst, Option, Result, Ok, Err}
use Rattle.std.specs.Prelude.{IfOk, OnOk, IfErr, OnErr, IsErrOf, IfSome}
use Rattle.sb_model.specs.declared.names.ListName.{ListName}
use Rattle.sb_outside.specs.Outside.{Rose, next_piece, appended}
use Rattle.sb_outside.specs.Reading.{ReadsToEnd}
use Rattle.sb_outside.specs.Writing.{HasFront}
use Rattle.update_client.specs.Held.{nothing_held_of}
use Rattle.input_lines.specs.declared.stop.Stop.TheVariants.{WriteFault}
use Rattle.input_lines.specs.Lines.{lines_of, IsInputWithinLimits}
use Rattle.input_lines.specs.Writing.{IsWritingStopped}
use Rattle.update_replay.specs.Printed.{replay_text}
use Rattle.update_replay.specs.Replay.{is_any_body_refused, IsPrinted, IsPartlyPrinted}
use Rattle.update_replay.proofs.Readings.{ReadsOrFails, reader, reader_reads, read_each}

module _ (law : ReadsOrFails) (names : List ListName) {left left' : Option (List (List ℕ))} {held held' : Option (List ℕ)} (text input : List ℕ) (same : input ≡ text) (whole : ReadsToEnd text left left') (within : IsInputWithinLimits text) where
  pub printed_whole : (refused : Bool) → refused ≡ is_any_body_refused (nothing_held_of names) (map (reader law) (lines_of input)) → held' ≡ appended held (replay_text names (map (reader law) (lines_of input)))
      → IsPrinted names refused left left' held held'
  printed_whole refused refusal printed = record {
    input = input;
    whole = subst (λ (bytes : List ℕ). IfSome left (λ pieces. next_piece pieces ≡ bytes)) (sym same) whole.whole;
    end = whole.end;
    within = subst IsInputWithinLimits (sym same) within;
    readings = map (reader law) (lines_of input);
    read = read_each (reader law) (reader_reads law) (lines_of input);
    refusal = refusal;
    text = printed;
  }

  pub printed_part : HasFront held held' (replay_text names (map (reader law) (lines_of input))) → IsPartlyPrinted names left left' held held'
  printed_part front = record {
    input = input;
    whole = subst (λ (bytes : List ℕ). IfSome left (λ pieces. next_piece pieces ≡ bytes)) (sym same) whole.whole;
    end = whole.end;
    within = subst IsInputWithinLimits (sym same) within;
    readings = map (reader law) (lines_of input);
    read = read_each (reader law) (reader_reads law) (lines_of input);
    front = front;
  }

-- what both clauses of an `Ok` give, and what a clause of an `Err` says of an error that is known
pub ok_both : {T E Q : Type 0} {P R : T → Type 0} (r : Result T E) → ((x : T) → P x → Q → R x) → IfOk r P → OnOk r Q → IfOk r R
ok_both (Ok x) f p q = f x p q
ok_both (Err e) f p q = tt

pub err_known : {T E P : Type 0} (r : Result T E) (e : E) → IsErrOf r e → OnErr r P → P
err_known (Ok x) e is h = absurd (cc)
err_known (Err f) e is h = h

pub err_is : {T E : Type 0} (P : E → Type 0) (r : Result T E) (e : E) → IsErrOf r e → IfErr r P → P e
err_is P (Ok x) e is h = absurd (cc)
err_is P (Err f) e is h = let same : f ≡ e = cc in subst P same h

pub write_rose : (before after : ℕ) → IsWritingStopped WriteFault before after → Rose before after
write_rose before after (inl h) = h.1
write_rose before after (inr h) = absurd (let other = h.0 in cc)

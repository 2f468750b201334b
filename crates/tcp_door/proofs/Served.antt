-- What is left of an answer, and what is gathered, after one step and another.
use Rattle.std.proofs.Common.{◌≡◌, ◌⊎◌, inl, inr, ℕ, ◌+◌, List, [], ◌++◌, length, drop, Option, Some, None, refl, sym, ap, ◌∙◌, append_assoc, arith}
use Rattle.std.proofs.lemmas.List.{append-nil, drop-drop, drop_all}
use Rattle.gathering.specs.declared.steps.Sent.{Sent}
use Rattle.tcp_door.specs.Guests.{gathered_with, left_of, IsRest, IsLonger, IsLeftAfterTry, IsSettled, IsServedGuest}
use Rattle.tcp_door.specs.declared.guests.Guest.{Guest}

pub whole_rest : (whole : List ℕ) → IsRest whole whole
whole_rest whole = record { count = 0; is = refl }

pub no_rest : (whole : List ℕ) → IsRest [] whole
no_rest whole = record { count = length whole; is = sym (drop_all (length whole) whole (omega arith)) }

pub rest_of_rest : (rest more whole : List ℕ) → IsRest rest more → IsRest more whole → IsRest rest whole
rest_of_rest rest more whole one other = record {
  count = other.count + one.count;
  is = one.is ∙ ap (λ bytes. drop one.count bytes) other.is ∙ drop-drop one.count other.count whole;
}

gathered_none : (before : Option (List ℕ)) → before ≡ gathered_with before []
gathered_none None = refl
gathered_none (Some bytes) = ap (λ all. Some all) (sym (append-nil bytes))

gathered_twice : (before : Option (List ℕ)) (one other : List ℕ) → gathered_with (gathered_with before one) other ≡ gathered_with before (one ++ other)
gathered_twice None one other = refl
gathered_twice (Some bytes) one other = ap (λ all. Some all) (append_assoc bytes one other)

pub as_long : (before after : Option (List ℕ)) → after ≡ before → IsLonger before after
as_long before after same = record { piece = []; is = same ∙ gathered_none before }

pub longer : (before more after : Option (List ℕ)) → IsLonger before more → IsLonger more after → IsLonger before after
longer before more after one other = record {
  piece = one.piece ++ other.piece;
  is = other.is ∙ ap (λ gathered. gathered_with gathered other.piece) one.is ∙ gathered_twice before one.piece other.piece;
}

settled_rest : (was guest : Guest) → (guest.answer ≡ was.answer) ⊎ (guest.answer ≡ None) → IsRest (left_of guest.answer) (left_of was.answer)
settled_rest was guest (inl same) = rw same (whole_rest (left_of was.answer))
settled_rest was guest (inr over) = rw over (no_rest (left_of was.answer))

pub settled_served : (was guest : Guest) → IsSettled was guest → IsServedGuest was guest
settled_served was guest settled = record {
  serial = settled.serial;
  gathered = as_long was.gathered guest.gathered settled.gathered;
  answer = settled_rest was guest settled.answer;
}

pub served_twice : (was between guest : Guest) → IsServedGuest was between → IsServedGuest between guest → IsServedGuest was guest
served_twice was between guest one other = record {
  serial = other.serial ∙ one.serial;
  gathered = longer was.gathered between.gathered guest.gathered one.gathered other.gathered;
  answer = rest_of_rest (left_of guest.answer) (left_of between.answer) (left_of was.answer) other.answer one.answer;
}

pub served_same : (was : Guest) → IsServedGuest was was
served_same was = record {
  serial = refl;
  gathered = as_long was.gathered was.gathered refl;
  answer = whole_rest (left_of was.answer);
}

pub heard_settled : (was heard : Guest) → heard ≡ record was { has_ended = heard.has_ended; can_read = heard.can_read } → IsSettled was heard
heard_settled was heard same = record { serial = ap (λ g. g.serial) same; gathered = ap (λ g. g.gathered) same; answer = inl (ap (λ g. g.answer) same) }

pub sent_served : (was now : Guest) (sent : Sent) → IsLeftAfterTry (left_of was.answer) (left_of now.answer) sent → now ≡ record was { answer = now.answer; can_write = now.can_write } → IsServedGuest was now
sent_served was now sent is same = record {
  serial = ap (λ g. g.serial) same;
  gathered = as_long was.gathered now.gathered (ap (λ g. g.gathered) same);
  answer = record { count = is.count; is = is.rest };
}

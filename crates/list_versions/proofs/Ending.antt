-- Bytes that end with others.
use Rattle.std.proofs.Common.{◌≡◌, ℕ, ◌-◌, ◌<◌, ◌≤◌, List, [], ◌∷◌, ◌++◌, length, drop, refl, sym, ap, ◌∙◌, append_assoc, length-append, arith, Result}
use Rattle.std.proofs.lemmas.List.{drop_at}
use Rattle.list_versions.specs.Lines.{newline}
use Rattle.list_versions.specs.declared.fault.JournalFault.{JournalFault}
use Rattle.list_versions.specs.Draft.{Moves}
use Rattle.list_versions.specs.Journal.{Kept}
use Rattle.list_versions.specs.Split.{IsLine, EndsWith}

pub ends_same : (bytes : List ℕ) → EndsWith bytes bytes
ends_same bytes = record { front = []; whole = refl }

pub ends_then : (bytes middle back : List ℕ) → EndsWith bytes middle → EndsWith middle back → EndsWith bytes back
ends_then bytes middle back first second = record {
  front = first.front ++ second.front;
  whole = first.whole ∙ ap (λ bs. first.front ++ bs) second.whole ∙ sym (append_assoc first.front second.front back);
}

pub ends_line : (bytes line rest : List ℕ) → IsLine bytes line rest → EndsWith bytes rest
ends_line bytes line rest h = record { front = line ++ newline ∷ []; whole = h.whole ∙ sym (append_assoc line (newline ∷ []) rest) }

pub ends_moves : {f g : List ℕ → List ℕ → Result Kept JournalFault} {bytes rest : List ℕ} {most : ℕ} → Moves f g bytes rest most → EndsWith bytes rest
ends_moves moves = record { front = moves.taken; whole = moves.whole }

pub ends_longer : (bytes back : List ℕ) → EndsWith bytes back → length back ≤ length bytes
ends_longer bytes back h = omega (arith, ap length h.whole, length-append h.front back)

pub ends_drop : (bytes back : List ℕ) → EndsWith bytes back → drop (length bytes - length back) bytes ≡ back
ends_drop bytes back h =
    ap (drop (length bytes - length back)) h.whole
    ∙ drop_at h.front back (length bytes - length back) (omega (arith, ap length h.whole, length-append h.front back))

pub shorter_line : (bytes line rest : List ℕ) → IsLine bytes line rest → length rest < length bytes
shorter_line bytes line rest h = omega (arith, ap length h.whole, length-append line (newline ∷ rest))

use Rattle.std.proofs.Common.{◌≡◌, ℕ, zero, suc, ◌≤◌, Bool, true, false, cond, refl, sym, ◌∙◌, arith, Option, Some, None, ap}
use Rattle.std.specs.Prelude.{IfSome, ◌==◌}
use Rattle.std.proofs.lemmas.Bool.{false≢true}
use Rattle.std.proofs.lemmas.Bool.Decides.{nat_tests}
use Rattle.sb_model.specs.History.{History, version_count}
use Rattle.sb_model.specs.declared.names.ListName.{ListName}
use Rattle.sb_model.specs.Target.{greatest_up_to, can_reach, is_within}
use Rattle.sb_model.proofs.laws.targets_are_the_greatest.Goals as goal

-- where some number passes, the greatest one does
greatest_passes : (test : ℕ → Bool) (bound n : ℕ) → n ≤ bound → test n ≡ true → test (greatest_up_to test bound) ≡ true
greatest_passes test zero n h pass = ap test (omega (arith, h)) ∙ pass
greatest_passes test (suc bound) n h pass = go (test (suc bound)) refl (greatest_passes test bound n)
  where
    go : (b : Bool) → test (suc bound) ≡ b → (n ≤ bound → test n ≡ true → test (greatest_up_to test bound) ≡ true) → test (cond b (suc bound) (greatest_up_to test bound)) ≡ true
    go true e later = e
    go false e later =
        let other : (n ≡ suc bound) → ⊥ = λ is. false≢true (sym e ∙ ap test (sym is) ∙ pass) in
        later (omega (arith, h, other)) pass

-- and none above it does
greatest_is_last : (test : ℕ → Bool) (bound n : ℕ) → n ≤ bound → test n ≡ true → n ≤ greatest_up_to test bound
greatest_is_last test zero n h pass = h
greatest_is_last test (suc bound) n h pass = go (test (suc bound)) refl (greatest_is_last test bound n)
  where
    go : (b : Bool) → test (suc bound) ≡ b → (n ≤ bound → test n ≡ true → n ≤ greatest_up_to test bound) → n ≤ cond b (suc bound) (greatest_up_to test bound)
    go true e later = h
    go false e later =
        let other : (n ≡ suc bound) → ⊥ = λ is. false≢true (sym e ∙ ap test (sym is) ∙ pass) in
        later (omega (arith, h, other)) pass

greatest_within : (test : ℕ → Bool) (bound : ℕ) → greatest_up_to test bound ≤ bound
greatest_within test zero = omega arith
greatest_within test (suc bound) = go (test (suc bound)) (greatest_within test bound)
  where
    go : (b : Bool) → greatest_up_to test bound ≤ bound → cond b (suc bound) (greatest_up_to test bound) ≤ suc bound
    go true later = omega arith
    go false later = omega (arith, later)

none_is_within : (limit : ℕ) → is_within limit 0 ≡ true
none_is_within limit = grind (arith, nat_tests)

-- one who holds a version may stay, and any other may take the empty set
begins : (history : History) (list : ListName) (held : Option ℕ) (u m : ℕ) → IfSome held (λ version. version ≤ version_count history)
    → (version : ℕ) × (version ≤ version_count history) × (can_reach history list held u m version ≡ true)
begins history list None u m h = (0, omega arith, rw (none_is_within u, none_is_within m) refl)
begins history list (Some held) u m h = (held, h, let same : (held == held) ≡ true = grind (arith, nat_tests) in rw same refl)

pub returns-clause-reached : goal.returns-clause-reached
returns-clause-reached c history list held u m h =
    let from = begins history list held u m h in
    greatest_passes (can_reach history list held u m) (version_count history) from.0 from.1 from.2

pub returns-clause-greatest : goal.returns-clause-greatest
returns-clause-greatest c history list held u m version within pass = greatest_is_last (can_reach history list held u m) (version_count history) version within pass

pub returns-clause-last : goal.returns-clause-last
returns-clause-last c history list held u m = greatest_within (can_reach history list held u m) (version_count history)

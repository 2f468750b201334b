use Rattle.std.proofs.Common.{◌≡◌, ◌≤◌, ◌%◌, ◌*◌, ℕ, List, length, refl, sym, ap, subst, ◌∙◌, arith}
use Rattle.std.proofs.Math.Nat.{mul-mod_left}
use Rattle.sb_model.specs.Prefixes.{IsRising, concatenation}
use Rattle.sb_model.specs.History.{IsPrefixSize}
use Rattle.prefix_set.specs.Limits.{ArePrefixes, IsPrefixSet}
use Rattle.prefix_set.specs.Packing.{HaveSize}
use Rattle.prefix_set.specs.declared.set.TheConstants.{MAX_PREFIXES, MAX_BYTES}
use Rattle.prefix_set.specs.Pieces.{pieces_of}
use Rattle.prefix_set.proofs.PackedFacts.{length_even, pieces_of_even, HaveSize-pieces_of, joined_pieces_of, sizes_even}
use Rattle.prefix_set.proofs.set.PrefixSet.from_rising_bytes.Goals as goal

pub returns-then-bytes-gt-MAX_BYTES-clause-none : goal.returns-then-bytes-gt-MAX_BYTES-clause-none
returns-then-bytes-gt-MAX_BYTES-clause-none c none set kept even joined =
    absurd (omega (arith, c.if-bytes-gt-MAX_BYTES.true, kept.bytes, ap length joined))

pub returns-then-bytes-size-ne0-clause-none : goal.returns-then-bytes-size-ne0-clause-none
returns-then-bytes-size-ne0-clause-none c none set kept even joined =
    let whole : length c.args.bytes.now ≡ length set * c.args.size = ap length (sym joined) ∙ length_even c.args.size set even in
    c.if-bytes-size-ne0.true (ap (λ (n : ℕ). n % c.args.size) whole ∙ mul-mod_left (length set) c.args.size)

-- what was read is any set that the bytes are
read_as : (size : ℕ) (bytes : List ℕ) (members set : List (List ℕ)) → IsPrefixSize size → members ≡ pieces_of size bytes → HaveSize size set → concatenation set ≡ bytes → members ≡ set
read_as size bytes members set four are even joined = are ∙ pieces_of_even size bytes set (omega (arith, four.low)) even joined

pub returns-then-len-gt-MAX_PREFIXES-clause-none : goal.returns-then-len-gt-MAX_PREFIXES-clause-none
returns-then-len-gt-MAX_PREFIXES-clause-none c none set kept even joined =
    let are = read_as c.args.size c.args.bytes.now c.in_ok-members.members set c.requires c.in_ok-members.ensures even joined in
    absurd (omega (arith, c.if-len-gt-MAX_PREFIXES.true, c.len.ensures, ap length are, kept.count))

pub returns-then-not-rises-clause-none : goal.returns-then-not-rises-clause-none
returns-then-not-rises-clause-none c none set kept even joined =
    let are = read_as c.args.size c.args.bytes.now c.in_ok-members.members set c.requires c.in_ok-members.ensures even joined in
    let rose = c.if-not-rises.ensures.1 (subst IsRising (sym are) kept.rising) in
    cc

set_of_bytes : (size : ℕ) (bytes : List ℕ) (members : List (List ℕ)) → IsPrefixSize size → length bytes % size ≡ 0 → members ≡ pieces_of size bytes
    → HaveSize size members × (concatenation members ≡ bytes) × ArePrefixes members
set_of_bytes size bytes members four whole are =
    let even : HaveSize size members = subst (HaveSize size) (sym are) (HaveSize-pieces_of size bytes whole) in
    (even, ap concatenation are ∙ joined_pieces_of size bytes whole, sizes_even size members four even)

set_is_kept : (size : ℕ) (bytes : List ℕ) (members : List (List ℕ)) → IsPrefixSize size → length bytes % size ≡ 0 → members ≡ pieces_of size bytes → IsRising members
    → length members ≤ MAX_PREFIXES → length bytes ≤ MAX_BYTES → IsPrefixSet members
set_is_kept size bytes members four whole are rising few short =
    let made = set_of_bytes size bytes members four whole are in
    record { rising = rising; prefixes = made.2; count = few; bytes = omega (arith, short, ap length made.1) }

pub of-requires-2 : goal.of-requires-2
of-requires-2 c =
    set_is_kept c.args.size c.args.bytes.now c.in_ok-members.members c.requires c.if-bytes-size-ne0.false c.in_ok-members.ensures (c.if-not-rises.ensures.0 refl)
    (omega (arith, c.if-len-gt-MAX_PREFIXES.false, c.len.ensures)) (omega (arith, c.if-bytes-gt-MAX_BYTES.false))

pub returns-clause-some : goal.returns-clause-some
returns-clause-some c =
    let made = set_of_bytes c.args.size c.args.bytes.now c.in_ok-members.members c.requires c.if-bytes-size-ne0.false c.in_ok-members.ensures in
    let kept =
    set_is_kept c.args.size c.args.bytes.now c.in_ok-members.members c.requires c.if-bytes-size-ne0.false c.in_ok-members.ensures (c.if-not-rises.ensures.0 refl)
    (omega (arith, c.if-len-gt-MAX_PREFIXES.false, c.len.ensures)) (omega (arith, c.if-bytes-gt-MAX_BYTES.false))
    in
    (subst IsPrefixSet (sym c.of-2.ensures) kept, subst (HaveSize c.args.size) (sym c.of-2.ensures) made.0, ap concatenation c.of-2.ensures ∙ made.1)

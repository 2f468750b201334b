use Rattle.std.proofs.Common.{◌≡◌, ℕ, ◌+◌, ◌-◌, Bool, length, ap, ◌∙◌, arith}
use Rattle.std.specs.Prelude.{find}
use Rattle.std.specs.List.{range_with_len}
use Rattle.std.specs.Str.{bytes_eq}
use Rattle.mirror_places.specs.Tokens.{mirror_token}
use Rattle.mirror_places.proofs.answering.place_named.Goals as goal

same_range : (p : ℕ → Bool) (a b m n : ℕ) → a ≡ b → m ≡ n → find p (range_with_len a m) ≡ find p (range_with_len b n)
same_range p a b m n first long = ap (λ k. find p (range_with_len k m)) first ∙ ap (λ k. find p (range_with_len b k)) long

pub returns : goal.returns
returns c =
    c.place_among.ensures
    ∙ same_range (λ place. bytes_eq (mirror_token c.args.mirror.now.epoch c.args.asked.now.name place) c.args.asked.now.state)
    c.gone.result c.args.mirror.now.gone (c.newest.result + 1 - c.gone.result) (length c.args.mirror.now.kept)
    c.gone.ensures.value (omega (arith, c.gone.ensures.value, c.gone.ensures.some, c.newest.ensures.value))

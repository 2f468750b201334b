-- What is known of URLs that are looked up, as far as they are decided.
use Rattle.std.proofs.Common.{◌≡◌, ℕ, List, [], ◌∷◌, ◌++◌, Option, Some, None, Result, Err, inl, inr, refl, sym, ap, ◌∙◌, subst, append_assoc}
use Rattle.std.specs.Prelude.{map, ⊤}
use Rattle.std.proofs.lemmas.List.Elements.{Contains-append_left}
use Rattle.find_desk.specs.Desk.{DeskStart, looked_up}
use Rattle.find_desk.specs.Events.{DeskEvent, Found, MadeFind}
use Rattle.find_desk.specs.Verdicts.{IsVerdictByFind, IsVerdictByLook}
use Rattle.lookup_messages.specs.Messages.{AskedUrls}
use Rattle.proxy_looks.specs.Fates.{AreTold, IsToldVerdict}
use Rattle.proxy_looks.specs.Settled.{AreUrlsSettled, IsUrlSettled, asked_after, find_for}
use Rattle.proxy_looks.specs.Urls.{url_asked}
use Rattle.proxy_looks.specs.declared.urls.LookUrl.{LookUrl}
use Rattle.proxy_serving.specs.declared.told.SeenUrl.{SeenUrl}
use Rattle.update_client.specs.Held.{Held}
use Rattle.url_checker.specs.declared.findings.Hit.{Hit}
use Rattle.url_checker.specs.declared.looking.Looks.{Looks}
use Rattle.hash_messages.specs.declared.response.FindResponse.{FindResponse}
use Rattle.verdict_report.specs.declared.verdicts.Cause.{Cause}
use Rattle.verdict_report.specs.declared.verdicts.Cause.TheVariants.{NotBefore}
use Rattle.verdict_report.specs.declared.verdicts.Verdict.{Verdict}
use Rattle.proxy_laws.specs.Traced.{AreToldSo, GoesBackTo, IsAnswerFor, IsToldBy}

-- ---- one verdict

pub by_look : (start : DeskStart) (events : List DeskEvent) (hits : List Hit) (verdict : Verdict) → IsVerdictByLook start events hits verdict → GoesBackTo start events hits verdict
by_look start events hits verdict by = record {
  before = by.before;
  after = by.after;
  now = by.now;
  splits = by.splits;
  answer = Err (NotBefore by.allowed);
  given = inr (by.allowed, refl);
  verdict_is = by.verdict_is;
}

pub by_find : (start : DeskStart) (events : List DeskEvent) (hits : List Hit) (one : MadeFind) (verdict : Verdict) → IsVerdictByFind start events hits one verdict → GoesBackTo start events hits verdict
by_find start events hits one verdict by = record {
  before = by.before;
  after = by.after;
  now = by.now;
  splits = by.splits;
  answer = one.talk.answer;
  given = inl (one, by.found, by.asked, refl);
  verdict_is = by.verdict_is;
}

answer_more : (after more : List DeskEvent) (hits : List Hit) (answer : Result FindResponse Cause) → IsAnswerFor after hits answer → IsAnswerFor (after ++ more) hits answer
answer_more after more hits answer (inl by) = inl (by.0, Contains-append_left after more (Found by.0) by.1, by.2, by.3)
answer_more after more hits answer (inr none) = inr none

goes_more : (start : DeskStart) (events more : List DeskEvent) (hits : List Hit) (verdict : Verdict) → GoesBackTo start events hits verdict → GoesBackTo start (events ++ more) hits verdict
goes_more start events more hits verdict goes = record {
  before = goes.before;
  after = goes.after ++ more;
  now = goes.now;
  splits = ap (λ (all : List DeskEvent). all ++ more) goes.splits ∙ append_assoc goes.before (looked_up goes.now hits ∷ goes.after) more;
  answer = goes.answer;
  given = answer_more goes.after more _ goes.answer goes.given;
  verdict_is = goes.verdict_is;
}

-- ---- one URL

-- One without hits has no verdict; and a verdict on hits goes back to a look at them.
abbrev pub HasGrounds : DeskStart → List DeskEvent → Option (List Hit) → Option Verdict → Type 0
HasGrounds start events None verdict = verdict ≡ None
HasGrounds start events (Some hits) None = ⊤
HasGrounds start events (Some hits) (Some verdict) = GoesBackTo start events hits verdict

grounds_more : (start : DeskStart) (events more : List DeskEvent) (hits : Option (List Hit)) (verdict : Option Verdict) → HasGrounds start events hits verdict → HasGrounds start (events ++ more) hits verdict
grounds_more start events more None verdict has = has
grounds_more start events more (Some hits) None has = tt
grounds_more start events more (Some hits) (Some verdict) has = goes_more start events more hits verdict has

grounds_at_first : (start : DeskStart) (events : List DeskEvent) (hits : Option (List Hit)) → HasGrounds start events hits None
grounds_at_first start events None = refl
grounds_at_first start events (Some hits) = tt

grounds_settled : (start : DeskStart) (events : List DeskEvent) (by : Option MadeFind) (hits : Option (List Hit)) (verdict verdict' : Option Verdict) (looks : List Looks)
    → IsUrlSettled start events by hits verdict verdict' looks → HasGrounds start events hits verdict → HasGrounds start events hits verdict'
grounds_settled start events by None verdict verdict' looks is has = is.0 ∙ has
grounds_settled start events by (Some hits) (Some verdict) verdict' looks is has = subst (λ (v : Option Verdict). HasGrounds start events (Some hits) v) (sym is.0) has
grounds_settled start events (Some one) (Some hits) None verdict' looks is has =
    subst (λ (v : Option Verdict). HasGrounds start events (Some hits) v) (sym is.verdict_is) (by_find start events hits one is.given is.by)
grounds_settled start events None (Some hits) None verdict' looks (inl is) has =
    subst (λ (v : Option Verdict). HasGrounds start events (Some hits) v) (sym is.verdict_is) (by_look start events hits is.given is.by)
grounds_settled start events None (Some hits) None verdict' looks (inr is) has =
    subst (λ (v : Option Verdict). HasGrounds start events (Some hits) v) (sym is.undecided) tt

told_by : (start : DeskStart) (events : List DeskEvent) (hits : Option (List Hit)) (verdict told : Option Verdict) → IsToldVerdict start events hits verdict told
    → HasGrounds start events hits verdict → IsToldBy start events hits told
told_by start events None verdict told is has = is ∙ has
told_by start events (Some hits) (Some verdict) told is has = (verdict, is, has)
told_by start events (Some hits) None told is has = (is.0, is.1, by_look start events hits is.0 is.2)

-- ---- all of them

-- These URLs, which were asked, are now so.
abbrev pub AreGrounded : DeskStart → List DeskEvent → (asked urls : List LookUrl) → Type 0
AreGrounded start events [] [] = ⊤
AreGrounded start events (one ∷ asked) (url ∷ urls) =
    (url.url ≡ one.url) × (url.hits ≡ one.hits) × HasGrounds start events one.hits url.verdict × AreGrounded start events asked urls
AreGrounded start events [] (url ∷ urls) = ⊥
AreGrounded start events (one ∷ asked) [] = ⊥

pub grounded_more : (start : DeskStart) (events more : List DeskEvent) (asked urls : List LookUrl) → AreGrounded start events asked urls → AreGrounded start (events ++ more) asked urls
grounded_more start events more [] [] are = tt
grounded_more start events more (one ∷ asked) (url ∷ urls) are =
    (are.0, are.1, grounds_more start events more one.hits url.verdict are.2, grounded_more start events more asked urls are.3)
grounded_more start events more [] (url ∷ urls) are = absurd are
grounded_more start events more (one ∷ asked) [] are = absurd are

-- as they are asked
pub grounded_at_first : (start : DeskStart) (events : List DeskEvent) (lists : List Held) (message : AskedUrls) (urls : List (List ℕ))
    → AreGrounded start events (map (url_asked lists message) urls) (map (url_asked lists message) urls)
grounded_at_first start events lists message [] = tt
grounded_at_first start events lists message (url ∷ urls) =
    (refl, refl, grounds_at_first start events (url_asked lists message url).hits, grounded_at_first start events lists message urls)

pub grounded_settled : (start : DeskStart) (events : List DeskEvent) (by : Option MadeFind) (past : List Looks) (asked urls urls' : List LookUrl) (looks : List Looks)
    → AreUrlsSettled start events by past urls urls' looks → AreGrounded start events asked urls → AreGrounded start events asked urls'
grounded_settled start events by past [] [] [] looks settled are = tt
grounded_settled start events by past (one ∷ asked) (url ∷ urls) (url' ∷ urls') looks settled are =
    let is = settled.3 in (
      is.url ∙ are.0,
      is.hits ∙ are.1,
      grounds_settled start events (find_for by past) one.hits url.verdict url'.verdict settled.0
          (subst (λ (hits : Option (List Hit)). IsUrlSettled start events (find_for by past) hits url.verdict url'.verdict settled.0) are.1 is.settled) are.2,
      grounded_settled start events by (asked_after past url) asked urls urls' settled.1 settled.4 are.3,
    )
grounded_settled start events by past [] [] (url' ∷ urls') looks settled are = absurd settled
grounded_settled start events by past [] (url ∷ urls) urls' looks settled are = absurd are
grounded_settled start events by past (one ∷ asked) [] urls' looks settled are = absurd are
grounded_settled start events by past (one ∷ asked) (url ∷ urls) [] looks settled are = absurd settled

-- what is told of them
pub grounded_told : (start : DeskStart) (events : List DeskEvent) (asked urls : List LookUrl) (told : List SeenUrl) → AreTold start events urls told
    → AreGrounded start events asked urls → AreToldSo start events asked told
grounded_told start events [] [] [] told are = tt
grounded_told start events (one ∷ asked) (url ∷ urls) (seen ∷ all) told are = (
  told.0 ∙ are.0,
  told_by start events one.hits url.verdict seen.verdict
      (subst (λ (hits : Option (List Hit)). IsToldVerdict start events hits url.verdict seen.verdict) are.1 told.1) are.2,
  grounded_told start events asked urls all told.2 are.3,
)
grounded_told start events [] [] (seen ∷ all) told are = absurd told
grounded_told start events [] (url ∷ urls) told' told are = absurd are
grounded_told start events (one ∷ asked) [] told' told are = absurd are
grounded_told start events (one ∷ asked) (url ∷ urls) [] told are = absurd told

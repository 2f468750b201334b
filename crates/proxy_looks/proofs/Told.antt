-- What is told of URLs, and of one more.
use Rattle.std.proofs.Common.{◌≡◌, ◌≤◌, ◌+◌, List, [], ◌∷◌, ◌++◌, length, drop, Option, Some, None, arith, ap, ◌∙◌, subst, length-append, length-drop}
use Rattle.find_desk.specs.Desk.{DeskStart}
use Rattle.find_desk.specs.Events.{DeskEvent}
use Rattle.proxy_looks.specs.declared.urls.LookUrl.{LookUrl}
use Rattle.proxy_looks.specs.Fates.{AreTold, IsToldVerdict}
use Rattle.proxy_looks.specs.Settled.{AreLooksAsFar, AreLooksOf, asked_after}
use Rattle.proxy_looks.specs.Urls.{open_hits, open_hits_of}
use Rattle.proxy_serving.specs.declared.told.SeenUrl.{SeenUrl}
use Rattle.url_checker.specs.declared.findings.Hit.{Hit}
use Rattle.url_checker.specs.declared.looking.Looks.{Looks}
use Rattle.verdict_report.specs.declared.verdicts.Verdict.{Verdict}

-- ---- the looks that are left

looks_after : (start : DeskStart) (events : List DeskEvent) (hits : Option (List Hit)) (verdict : Option Verdict) (others : List (List Hit)) (looks : List Looks)
    → AreLooksOf start events (open_hits_of hits verdict ++ others) looks → AreLooksOf start events others (drop (length (open_hits_of hits verdict)) looks)
looks_after start events None verdict others looks are = are
looks_after start events (Some hits) (Some verdict) others looks are = are
looks_after start events (Some hits) None others [] are = absurd are
looks_after start events (Some hits) None others (look ∷ looks) are = are.1

looks_far : (start : DeskStart) (events : List DeskEvent) (hits : Option (List Hit)) (verdict : Option Verdict) (others : List (List Hit)) (looks : List Looks)
    → AreLooksOf start events (open_hits_of hits verdict ++ others) looks → AreLooksAsFar start events (open_hits_of hits verdict) looks
looks_far start events None verdict others looks are = tt
looks_far start events (Some hits) (Some verdict) others looks are = tt
looks_far start events (Some hits) None others [] are = absurd are
looks_far start events (Some hits) None others (look ∷ looks) are = (are.0, tt)

pub looks_left : (start : DeskStart) (events : List DeskEvent) (one : LookUrl) (items rest : List LookUrl) (left left' : List Looks) → items ≡ one ∷ rest → left' ≡ asked_after left one
    → AreLooksOf start events (open_hits items) left → AreLooksOf start events (open_hits rest) left'
looks_left start events one items rest left left' steps after are =
    rw (after) (looks_after start events one.hits one.verdict (open_hits rest) left (subst (λ (items : List LookUrl). AreLooksOf start events (open_hits items) left) steps are))

pub looks_of_first : (start : DeskStart) (events : List DeskEvent) (one : LookUrl) (items rest : List LookUrl) (left : List Looks) → items ≡ one ∷ rest
    → AreLooksOf start events (open_hits items) left → AreLooksAsFar start events (open_hits_of one.hits one.verdict) left
looks_of_first start events one items rest left steps are =
    looks_far start events one.hits one.verdict (open_hits rest) left (subst (λ (items : List LookUrl). AreLooksOf start events (open_hits items) left) steps are)

open_count : (one : LookUrl) (items rest : List LookUrl) → items ≡ one ∷ rest → length (open_hits items) ≡ length (open_hits_of one.hits one.verdict) + length (open_hits rest)
open_count one items rest steps = ap (λ (items : List LookUrl). length (open_hits items)) steps ∙ length-append (open_hits_of one.hits one.verdict) (open_hits rest)

pub enough_left : (one : LookUrl) (items rest : List LookUrl) (left : List Looks) → items ≡ one ∷ rest → length left ≡ length (open_hits items)
    → length (open_hits_of one.hits one.verdict) ≤ length left
enough_left one items rest left steps many = omega (arith, open_count one items rest steps, many)

pub count_left : (one : LookUrl) (items rest : List LookUrl) (left left' : List Looks) → items ≡ one ∷ rest → left' ≡ asked_after left one → length left ≡ length (open_hits items)
    → length left' ≡ length (open_hits rest)
count_left one items rest left left' steps after many =
    let fewer = ap (λ (left : List Looks). length left) after ∙ length-drop (length (open_hits_of one.hits one.verdict)) left in
    omega (arith, open_count one items rest steps, many, fewer)

-- ---- one more

pub are_told_push : (start : DeskStart) (events : List DeskEvent) (urls : List LookUrl) (all : List SeenUrl) (one : LookUrl) (told : SeenUrl)
    → AreTold start events urls all → told.url ≡ one.url → IsToldVerdict start events one.hits one.verdict told.verdict
    → AreTold start events (urls ++ one ∷ []) (all ++ told ∷ [])
are_told_push start events [] [] one told are url is = (url, is, tt)
are_told_push start events [] (other ∷ all) one told are url is = absurd are
are_told_push start events (other ∷ urls) [] one told are url is = absurd are
are_told_push start events (other ∷ urls) (other' ∷ all) one told are url is = (are.0, are.1, are_told_push start events urls all one told are.2 url is)

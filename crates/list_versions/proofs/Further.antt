-- Records that are read in pieces.
use Rattle.std.proofs.Common.{◌≡◌, ℕ, List, [], ◌++◌, Bool, false, Option, None, Ok, Err, refl, sym, ap, ◌∙◌, append_assoc, ◌⊎◌, inr, subst}
use Rattle.std.proofs.lemmas.List.{append-nil}
use Rattle.sb_outside.specs.Outside.{GivesFront, AnswersEnd}
use Rattle.sb_outside.specs.Reading.{GivesSome, GrowsBy}
use Rattle.list_versions.specs.declared.draft.Draft.{Draft}
use Rattle.list_versions.specs.declared.fault.JournalFault.{JournalFault}
use Rattle.list_versions.specs.declared.fault.JournalFault.TheVariants as fault
use Rattle.list_versions.specs.declared.heads.Header.{Header}
use Rattle.list_versions.specs.Draft.{before_record, history_of, kept_of_draft}
use Rattle.list_versions.specs.Journal.{Kept, kept_of, read_on, after_bytes, at_record, empty_history}
use Rattle.list_versions.specs.Loaded.{FurtherFault, JournalOutcome}
use Rattle.list_versions.specs.Pieces.{Further, ReadsAll, StopsAt, FaultAt, IsBad, IsBegun}
use Rattle.list_versions.proofs.Fronts.{front_then, gives_nothing, ends_after, to_end_then, gives_then}
use Rattle.list_versions.proofs.LineFaults.{records_fault}

abbrev pub further_of : Draft → List ℕ → Further
further_of draft text bytes = before_record draft [] (text ++ bytes)

-- So far the source gave some bytes. They are read, and of them and the text from before there is left a text.
pub record HasRead (first : Draft) (text : List ℕ) (draft : Draft) (rest : List ℕ) (before after : Option (List (List ℕ))) : Type 0 where
  pub given : List ℕ
  pub gives : GivesFront given before after
  pub same : (more : List ℕ) → before_record first [] (text ++ (given ++ more)) ≡ before_record draft [] (rest ++ more)

pub has_nothing : (draft : Draft) (text : List ℕ) (left : Option (List (List ℕ))) → HasRead draft text draft text left left
has_nothing draft text left = record { given = []; gives = gives_nothing left; same = λ more. refl }

-- a piece that came
pub has_piece : (first : Draft) (text : List ℕ) (draft : Draft) (rest grown : List ℕ) (n : ℕ) (a b c : Option (List (List ℕ))) → HasRead first text draft rest a b → GrowsBy n rest grown b c → HasRead first text draft grown a c
has_piece first text draft rest grown n a b c h grows = record {
  given = h.given ++ grows.given;
  gives = front_then h.given grows.given a b c h.gives grows.gives;
  same = λ more. ap (λ bs. before_record first [] (text ++ bs)) (append_assoc h.given grows.given more) ∙ h.same (grows.given ++ more)
      ∙ ap (before_record draft []) (sym (append_assoc rest grows.given more) ∙ ap (λ bs. bs ++ more) (sym grows.whole));
}

-- the records in it
pub has_records : (first : Draft) (text : List ℕ) (draft next : Draft) (rest last : List ℕ) (a b : Option (List (List ℕ))) → HasRead first text draft rest a b
    → ((more : List ℕ) → before_record draft [] (rest ++ more) ≡ before_record next [] (last ++ more)) → HasRead first text next last a b
has_records first text draft next rest last a b h moves = record { given = h.given; gives = h.gives; same = λ more. h.same more ∙ moves more }

so_far : (first : Draft) (text : List ℕ) (draft : Draft) (rest : List ℕ) (a b : Option (List (List ℕ))) (h : HasRead first text draft rest a b) → before_record draft [] rest ≡ Ok (kept_of_draft draft rest)
    → further_of first text h.given ≡ Ok (kept_of_draft draft rest)
so_far first text draft rest a b h waits =
    ap (λ bs. before_record first [] (text ++ bs)) (sym (append-nil h.given)) ∙ h.same [] ∙ ap (before_record draft []) (append-nil rest) ∙ waits

-- the end of the input
pub all_read : (first : Draft) (text : List ℕ) (draft : Draft) (rest : List ℕ) (a b c : Option (List (List ℕ))) → HasRead first text draft rest a b → before_record draft [] rest ≡ Ok (kept_of_draft draft rest)
    → AnswersEnd b c → ReadsAll (further_of first text) (kept_of_draft draft rest) a c
all_read first text draft rest a b c h waits ends = record { given = h.given; gives = ends_after h.given a b c h.gives ends; all = so_far first text draft rest a b h waits }

-- the source failed
pub stops_failed : (first : Draft) (text : List ℕ) (draft : Draft) (rest : List ℕ) (a b c : Option (List (List ℕ))) → HasRead first text draft rest a b → before_record draft [] rest ≡ Ok (kept_of_draft draft rest)
    → c ≡ b → StopsAt (further_of first text) fault.ReadFault a c
stops_failed first text draft rest a b c h waits e = record {
  given = h.given;
  ended = false;
  gives = subst (GivesFront h.given a) (sym e) h.gives;
  why = (kept_of_draft draft rest, so_far first text draft rest a b h waits);
}

-- no memory is left
pub stops_refused : (first : Draft) (text : List ℕ) (draft : Draft) (rest : List ℕ) (a b c : Option (List (List ℕ))) → HasRead first text draft rest a b → GivesSome b c → StopsAt (further_of first text) fault.OutOfMemory a c
stops_refused first text draft rest a b c h some = record {
  given = h.given ++ some.given;
  ended = false;
  gives = front_then h.given some.given a b c h.gives some.gives;
  why = tt;
}

pub stops_here : (first : Draft) (text : List ℕ) (draft : Draft) (rest : List ℕ) (a b : Option (List (List ℕ))) → HasRead first text draft rest a b → StopsAt (further_of first text) fault.OutOfMemory a b
stops_here first text draft rest a b h = record { given = h.given; ended = false; gives = h.gives; why = tt }

-- a record is bad
pub stops_bad : (first : Draft) (text : List ℕ) (draft : Draft) (rest : List ℕ) (f : JournalFault) (a b : Option (List (List ℕ))) → HasRead first text draft rest a b
    → (f ≡ fault.OutOfMemory) ⊎ ((more : List ℕ) → before_record draft [] (rest ++ more) ≡ Err f) → StopsAt (further_of first text) f a b
stops_bad first text draft rest f a b h bad = record {
  given = h.given;
  ended = false;
  gives = h.gives;
  why = records_fault draft (further_of first text) h.given rest f h.same bad;
}

-- ---- one after the other

pub same_record : (first second : Draft) → ((rest : List ℕ) → kept_of_draft second rest ≡ kept_of_draft first rest) → (seen bytes : List ℕ) → before_record first seen bytes ≡ before_record second seen bytes
same_record first second same seen bytes = ap (λ kept. after_bytes (record { kept = kept; begun = None }) bytes) (sym (same seen))

-- What bytes come to by one reading is what the bytes after the first ones come to by another.
pub record Leads (f g : Further) (before after : Option (List (List ℕ))) : Type 0 where
  pub given : List ℕ
  pub gives : GivesFront given before after
  pub same : (more : List ℕ) → f (given ++ more) ≡ g more

pub leads_same : (f g : Further) (left : Option (List (List ℕ))) → ((more : List ℕ) → f more ≡ g more) → Leads f g left left
leads_same f g left h = record { given = []; gives = gives_nothing left; same = h }

pub all_after : (f g : Further) (kept : Kept) (a b c : Option (List (List ℕ))) → Leads f g a b → ReadsAll g kept b c → ReadsAll f kept a c
all_after f g kept a b c leads all = record {
  given = leads.given ++ all.given;
  gives = to_end_then leads.given all.given a b c leads.gives all.gives;
  all = leads.same all.given ∙ all.all;
}

bad_after : (f g : Further) (given bytes : List ℕ) (fault : JournalFault) → ((more : List ℕ) → f (given ++ more) ≡ g more) → IsBad g bytes fault → IsBad f (given ++ bytes) fault
bad_after f g given bytes fault same bad more = ap f (append_assoc given bytes more) ∙ same (bytes ++ more) ∙ bad more

fault_after : (f g : Further) (given bytes : List ℕ) (fault : JournalFault) → ((more : List ℕ) → f (given ++ more) ≡ g more) → FaultAt g bytes fault → FaultAt f (given ++ bytes) fault
fault_after f g given bytes fault.ReadFault same h = (h.0, same bytes ∙ h.1)
fault_after f g given bytes fault.OutOfMemory same h = h
fault_after f g given bytes fault.Header same h = h
fault_after f g given bytes (fault.Line n) same h = bad_after f g given bytes (fault.Line n) same h
fault_after f g given bytes (fault.UnknownList n) same h = bad_after f g given bytes (fault.UnknownList n) same h
fault_after f g given bytes (fault.ListTwice n) same h = bad_after f g given bytes (fault.ListTwice n) same h
fault_after f g given bytes (fault.TooMany n) same h = bad_after f g given bytes (fault.TooMany n) same h
fault_after f g given bytes (fault.TooLarge n) same h = bad_after f g given bytes (fault.TooLarge n) same h

pub stops_after : (f g : Further) (fault : JournalFault) (a b c : Option (List (List ℕ))) → Leads f g a b → StopsAt g fault b c → StopsAt f fault a c
stops_after f g fault a b c leads stops = record {
  given = leads.given ++ stops.given;
  ended = stops.ended;
  gives = gives_then leads.given stops.given stops.ended a b c leads.gives stops.gives;
  why = fault_after f g leads.given stops.given fault leads.same stops.why;
}

pub stops_at_once : (f : Further) (draft : Draft) (text : List ℕ) (why : JournalFault) (left : Option (List (List ℕ))) → ((more : List ℕ) → f more ≡ before_record draft [] (text ++ more))
    → (why ≡ fault.OutOfMemory) ⊎ ((more : List ℕ) → before_record draft [] (text ++ more) ≡ Err why) → StopsAt f why left left
stops_at_once f draft text why left same bad = record { given = []; ended = false; gives = gives_nothing left; why = records_fault draft f [] text why same bad }

-- ---- as the contracts say it

pub further_fault : (kept : Kept) (bytes : List ℕ) (fault : JournalFault) → FaultAt (read_on kept) bytes fault → FurtherFault kept bytes fault
further_fault kept bytes fault.ReadFault h = h
further_fault kept bytes fault.OutOfMemory h = h
further_fault kept bytes fault.Header h = h
further_fault kept bytes (fault.Line n) h = h
further_fault kept bytes (fault.UnknownList n) h = h
further_fault kept bytes (fault.ListTwice n) h = h
further_fault kept bytes (fault.TooMany n) h = h
further_fault kept bytes (fault.TooLarge n) h = h

pub journal_fault : (bytes : List ℕ) (ended : Bool) (fault : JournalFault) → FaultAt kept_of bytes fault → JournalOutcome bytes ended (Err fault)
journal_fault bytes ended fault.ReadFault h = inr h
journal_fault bytes ended fault.OutOfMemory h = h
journal_fault bytes ended fault.Header h = absurd h
journal_fault bytes ended (fault.Line n) h = h
journal_fault bytes ended (fault.UnknownList n) h = h
journal_fault bytes ended (fault.ListTwice n) h = h
journal_fault bytes ended (fault.TooMany n) h = h
journal_fault bytes ended (fault.TooLarge n) h = h

pub reads_on : (kept : Kept) (bytes : List ℕ) → read_on kept bytes ≡ after_bytes (at_record kept) (kept.rest ++ bytes)
unfolding read_on
reads_on kept bytes = refl

-- after the first line
pub leads_begun : (header : Header) (draft : Draft) (text : List ℕ) (a b : Option (List (List ℕ))) → draft.sized ≡ header.sized → history_of draft ≡ empty_history header.epoch → IsBegun header text a b
    → Leads kept_of (further_of draft text) a b
leads_begun header draft text a b sized history h = record {
  given = h.given;
  gives = h.gives;
  same = λ more. h.same more ∙ (λ i. after_bytes (record { kept = record { sized = sym sized i; versions = sym history i; rest = [] }; begun = None }) (text ++ more));
}

-- no byte came
pub read_nothing : (draft : Draft) (rest : List ℕ) → before_record draft [] rest ≡ Ok (kept_of_draft draft rest) → read_on (kept_of_draft draft rest) [] ≡ Ok (kept_of_draft draft rest)
read_nothing draft rest waits = reads_on (kept_of_draft draft rest) [] ∙ ap (after_bytes (at_record (kept_of_draft draft rest))) (append-nil rest) ∙ waits

-- the first piece after the rest
pub leads_piece : (kept : Kept) (piece text : List ℕ) (n : ℕ) (a b : Option (List (List ℕ))) → GrowsBy n [] piece a b → text ≡ kept.rest ++ piece → Leads (read_on kept) (λ bytes. after_bytes (at_record kept) (text ++ bytes)) a b
leads_piece kept piece text n a b grows e = record {
  given = piece;
  gives = subst (λ bs. GivesFront bs a b) (sym grows.whole) grows.gives;
  same = λ more. reads_on kept (piece ++ more) ∙ ap (after_bytes (at_record kept)) (sym (append_assoc kept.rest piece more) ∙ ap (λ bs. bs ++ more) (sym e));
}

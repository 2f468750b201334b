-- Texts on their way to the output, one after the other.
use Rattle.std.proofs.Common.{◌≡◌, ◌≢◌, ℕ, List, [], ◌∷◌, ◌++◌, refl, sym, ap, ◌∙◌, Option, Some, None, append_assoc, append-nil}
use Rattle.sb_outside.specs.Outside.{appended}
use Rattle.sb_outside.specs.Writing.{IsOnItsWay, HasFront}

pub appended_twice : (known : Option (List ℕ)) (a b : List ℕ) → appended (appended known a) b ≡ appended known (a ++ b)
appended_twice None a b = refl
appended_twice (Some bytes) a b = ap Some (append_assoc bytes a b)

pub appended_nothing : (known : Option (List ℕ)) → known ≡ appended known []
appended_nothing None = refl
appended_nothing (Some bytes) = ap Some (sym (append-nil bytes))

-- what has a back that is something is something
pub some_back : (xs ys : List ℕ) → ys ≢ [] → xs ++ ys ≢ []
some_back [] ys h = h
some_back (x ∷ xs) ys h = λ e. cc

pub some_front : (xs ys : List ℕ) → xs ≢ [] → xs ++ ys ≢ []
some_front [] ys h = absurd (h refl)
some_front (x ∷ xs) ys h = λ e. cc

-- nothing was taken yet
pub starts : (known : Option (List ℕ)) (page : List ℕ) → IsOnItsWay known known page page
starts known page = record { taken = []; has = appended_nothing known; rest = refl }

taken_twice : (a b c : Option (List ℕ)) (first next : List ℕ) → b ≡ appended a first → c ≡ appended b next → c ≡ appended a (first ++ next)
taken_twice a b c first next h k = k ∙ ap (λ known. appended known next) h ∙ appended_twice a first next

rest_of : (taken more waiting done text back : List ℕ) → taken ++ waiting ≡ done → more ++ back ≡ waiting ++ text → (taken ++ more) ++ back ≡ done ++ text
rest_of taken more waiting done text back h k =
    append_assoc taken more back ∙ ap (λ bytes. taken ++ bytes) k ∙ sym (append_assoc taken waiting text) ∙ ap (λ bytes. bytes ++ text) h

-- one more text
pub goes_on : {a b c : Option (List ℕ)} (waiting waiting' done text : List ℕ) → IsOnItsWay a b waiting done → IsOnItsWay b c waiting' (waiting ++ text) → IsOnItsWay a c waiting' (done ++ text)
goes_on waiting waiting' done text w v = record {
  taken = w.taken ++ v.taken;
  has = taken_twice _ _ _ w.taken v.taken w.has v.has;
  rest = rest_of w.taken v.taken waiting done text waiting' w.rest v.rest;
}

-- what waits with one text more
pub way_longer : {a b : Option (List ℕ)} (waiting done text : List ℕ) → IsOnItsWay a b waiting done → IsOnItsWay a b (waiting ++ text) (done ++ text)
way_longer waiting done text w = record { taken = w.taken; has = w.has; rest = sym (append_assoc w.taken waiting text) ∙ ap (λ bytes. bytes ++ text) w.rest }

-- a front of one more text
pub front_after : {a b c : Option (List ℕ)} (waiting done text : List ℕ) → IsOnItsWay a b waiting done → HasFront b c (waiting ++ text) → HasFront a c (done ++ text)
front_after waiting done text w v = record {
  taken = w.taken ++ v.taken;
  lost = v.lost;
  has = taken_twice _ _ _ w.taken v.taken w.has v.has;
  rest = rest_of w.taken v.taken waiting done text v.lost w.rest v.rest;
  missing = v.missing;
}

-- a front of what waits
pub front_of_way : {a b c : Option (List ℕ)} (waiting done : List ℕ) → IsOnItsWay a b waiting done → HasFront b c waiting → HasFront a c done
front_of_way waiting done w v = record {
  taken = w.taken ++ v.taken;
  lost = v.lost;
  has = taken_twice _ _ _ w.taken v.taken w.has v.has;
  rest = append_assoc w.taken v.taken v.lost ∙ ap (λ bytes. w.taken ++ bytes) v.rest ∙ w.rest;
  missing = v.missing;
}

-- what waits is taken whole
pub way_ends : {a b c : Option (List ℕ)} (waiting done : List ℕ) → IsOnItsWay a b waiting done → c ≡ appended b waiting → c ≡ appended a done
way_ends {a} waiting done w h = taken_twice _ _ _ w.taken waiting w.has h ∙ ap (appended a) w.rest

-- a front of a text is one of a longer text
pub front_of_more : {a b : Option (List ℕ)} (text later : List ℕ) → HasFront a b text → HasFront a b (text ++ later)
front_of_more text later v = record {
  taken = v.taken;
  lost = v.lost ++ later;
  has = v.has;
  rest = sym (append_assoc v.taken v.lost later) ∙ ap (λ bytes. bytes ++ later) v.rest;
  missing = some_front v.lost later v.missing;
}

-- what waits, where there is some, is not taken
pub front_of_rest : {a b : Option (List ℕ)} (waiting text : List ℕ) → waiting ≢ [] → IsOnItsWay a b waiting text → HasFront a b text
front_of_rest waiting text some w = record { taken = w.taken; lost = waiting; has = w.has; rest = w.rest; missing = some }

pub nothing_taken : (known : Option (List ℕ)) (text : List ℕ) → text ≢ [] → HasFront known known text
nothing_taken known text some = record { taken = []; lost = text; has = appended_nothing known; rest = refl; missing = some }

-- ---- what waits is written

-- what waited was taken whole, and nothing waits
pub way_whole : {a b c : Option (List ℕ)} (waiting done : List ℕ) → IsOnItsWay a b waiting done → c ≡ appended b waiting → IsOnItsWay a c [] done
way_whole waiting done w h = record { taken = w.taken ++ waiting; has = taken_twice _ _ _ w.taken waiting w.has h; rest = append-nil (w.taken ++ waiting) ∙ w.rest }

-- where nothing waits, all is taken
pub taken_whole : {a b : Option (List ℕ)} (waiting done : List ℕ) → waiting ≡ [] → IsOnItsWay a b waiting done → b ≡ appended a done
taken_whole {a} waiting done none w =
    w.has ∙ ap (appended a) (sym (append-nil w.taken) ∙ ap (λ rest. w.taken ++ rest) (sym none) ∙ w.rest)

-- What is kept stays right.
use Rattle.std.proofs.Common.{◌≡◌, ℕ, Bool, true, false, List, [], ◌∷◌, Option, Some, None, IfSome, refl, sym, ap, ◌∙◌, subst}
use Rattle.std.specs.Prelude.{◌&&◌, ◌↔◌, IsTrue, if◌then◌else◌}
use Rattle.std.specs.Cmp.Lexicographic.{pointwise}
use Rattle.std.proofs.lemmas.Bool.{eqb-true}
use Rattle.std.proofs.lemmas.List.Elements.{All-nil}
use Rattle.sb_model.specs.declared.names.ListName.{ListName}
use Rattle.sb_model.specs.Names.{same_name}
use Rattle.sb_model.specs.History.{History}
use Rattle.http_edge.specs.Responses.{response_text}
use Rattle.http_edge.specs.declared.messages.HttpRequest.{HttpRequest}
use Rattle.http_edge.specs.declared.messages.MediaType.TheVariants.{Json}
use Rattle.http_edge.specs.declared.messages.Status.{Status}
use Rattle.http_edge.specs.declared.messages.Status.TheVariants.{Success}
use Rattle.http_serving.specs.Written.{IsRightAnswer, IsTextOfRight}
use Rattle.http_serving.specs.declared.responses.Answer.{Answer}
use Rattle.http_serving.specs.declared.responses.Answer.TheVariants as answer
use Rattle.http_serving.specs.declared.responses.Response.{Response}
use Rattle.list_versions.specs.Limits.{WithinLimits}
use Rattle.update_messages.specs.Messages.{Request}
use Rattle.update_messages.specs.Reading.{ReadsRequest, IsTextOf}
use Rattle.update_messages.specs.Writing.{spelling_of_response}
use Rattle.delta_server.specs.declared.answering.Settings.{Settings}
use Rattle.sb_service.specs.Connection.{updates_text, IsResponseAt, IsUpdatesText}
use Rattle.http_serving.specs.Kept.{emptied, text_by_meaning, IsSentAs, KeptLists}
use Rattle.http_serving.specs.declared.kept.KeptAnswer.{KeptAnswer}
use Rattle.sb_service.specs.Kept.{are_whole, same_wishes, AreKeptOf, IsKeptOf}
use Rattle.sb_service.specs.Wish.{same_choice, same_version, same_wish, AreWishesOf, IsWishedText}
use Rattle.sb_service.specs.declared.wish.Wish.{Wish}
use Rattle.sb_service.proofs.Wishes.{answered}

-- ---- which wishes are the same

-- two names with the same codes are one
abbrev pub NamesLaw : Type 0
NamesLaw = (a b : ListName) → IsTrue (same_name a b) ↔ (a ≡ b)

one_version : (a b : Option ℕ) → same_version a b ≡ true → a ≡ b
one_version None None is = refl
one_version None (Some w) is = absurd (cc)
one_version (Some v) None is = absurd (cc)
one_version (Some v) (Some w) is = ap Some (eqb-true v w is)

one_choice : (a b : Bool) → same_choice a b ≡ true → a ≡ b
one_choice true true is = refl
one_choice true false is = absurd (cc)
one_choice false true is = absurd (cc)
one_choice false false is = refl

all_four : (a b c d : Bool) → (a && b && c && d) ≡ true → (a ≡ true) × (b ≡ true) × (c ≡ true) × (d ≡ true)
all_four true true true true is = (refl, refl, refl, refl)
all_four true true true false is = absurd (cc)
all_four true true false d is = absurd (cc)
all_four true false c d is = absurd (cc)
all_four false b c d is = absurd (cc)

both_are : (a b : Bool) → (a && b) ≡ true → (a ≡ true) × (b ≡ true)
both_are true true is = (refl, refl)
both_are true false is = absurd (cc)
both_are false b is = absurd (cc)

module _ (law : NamesLaw) where
  one_wish : (a b : Wish) → same_wish a b ≡ true → a ≡ b
  one_wish a b is =
      let made : ListName → ListName → Option ℕ → Bool → Wish = λ name list held rice. record { name = name; list = list; held = held; rice = rice } in
      let all = all_four (same_name a.name b.name) (same_name a.list b.list) (same_version a.held b.held) (same_choice a.rice b.rice) is in
      ap (λ (n : ListName). made n a.list a.held a.rice) ((law a.name b.name).0 all.0)
      ∙ ap (λ (l : ListName). made b.name l a.held a.rice) ((law a.list b.list).0 all.1)
      ∙ ap (λ (h : Option ℕ). made b.name b.list h a.rice) (one_version a.held b.held all.2)
      ∙ ap (λ (r : Bool). made b.name b.list b.held r) (one_choice a.rice b.rice all.3)

  ones : (xs ys : List Wish) → pointwise same_wish xs ys ≡ true → xs ≡ ys
  ones [] [] is = refl
  ones [] (y ∷ ys) is = absurd (cc)
  ones (x ∷ xs) [] is = absurd (cc)
  ones (x ∷ xs) (y ∷ ys) is =
      let both = both_are (same_wish x y) (pointwise same_wish xs ys) is in
      ap (λ (w : Wish). w ∷ xs) (one_wish x y both.0) ∙ ap (λ (ws : List Wish). y ∷ ws) (ones xs ys both.1)

-- ---- an answer that is found

module _ (history : History) (times : Settings) (request : HttpRequest) where
  abbrev IsRightText : List ℕ → Type 0
  IsRightText text = IsTextOfRight (IsResponseAt history times 1 request) Success [] text

  -- the text that is found by the body is that of a right response
  pub said_by_body : (asked text : List ℕ) → asked ≡ request.body
      → (answer : KeptAnswer (List Wish)) × IsKeptOf history times answer × (answer.asked ≡ asked) × (answer.text ≡ text) → IsRightText text
  said_by_body asked text body (answer, is, same, text_is) =
      let said = is.asked in
      record {
        fields = said.fields;
        body = said.body;
        right = (subst (λ (a : List ℕ). IsUpdatesText history times a said.body) (same ∙ body) said.right.1, said.right.0, refl);
        whole = sym text_is ∙ said.whole;
      }

  -- and so is the one that is found by the wishes
  pub said_by_wishes : WithinLimits history → NamesLaw → (message : Request) (wishes : List Wish) (text : List ℕ) → IsTextOf ReadsRequest request.body message → AreWishesOf history message.items wishes
      → (answer : KeptAnswer (List Wish)) × (other : List Wish) × IsKeptOf history times answer × (answer.meaning ≡ Some other) × (same_wishes other wishes ≡ true) × (answer.text ≡ text) → IsRightText text
  said_by_wishes limits law message wishes text reads wish (answer, other, is, meaning, same, text_is) =
      let own : answer.meaning ≡ Some wishes = meaning ∙ ap Some (ones law other wishes same) in
      let kept : IsTextOfRight (λ status fields body cause. (fields.media ≡ Json) × IsWishedText history times wishes body) Success [] answer.text =
      subst (λ (w : Option (List Wish)). IfSome w (λ ws. IsTextOfRight (λ status fields body cause. (fields.media ≡ Json) × IsWishedText history times ws body) Success [] answer.text)) own is.wished in
      record {
        fields = kept.fields;
        body = kept.body;
        right = ((message, reads, kept.right.1 ∙ ap spelling_of_response (sym (answered history limits times.wait message wishes wish))), kept.right.0, refl);
        whole = sym text_is ∙ kept.whole;
      }

  pub found_by_wishes : WithinLimits history → NamesLaw → (message : Request) (kept : KeptLists (List Wish)) (wishes : Option (List Wish)) (text : List ℕ) → IsTextOf ReadsRequest request.body message
      → IfSome wishes (AreWishesOf history message.items)
      → ((own : List Wish) → text_by_meaning same_wishes are_whole (Some own) kept ≡ Some text
      → (answer : KeptAnswer (List Wish)) × (other : List Wish) × IsKeptOf history times answer × (answer.meaning ≡ Some other) × (same_wishes other own ≡ true) × (answer.text ≡ text))
      → text_by_meaning same_wishes are_whole wishes kept ≡ Some text → IsRightText text
  found_by_wishes limits law message kept None text reads wish found says = absurd (cc)
  found_by_wishes limits law message kept (Some wishes) text reads wish found says = said_by_wishes limits law message wishes text reads wish (found wishes says)

-- ---- what is kept of a text

module _ (history : History) (times : Settings) where
  -- the text of a response with the status 200 to a message may be kept
  pub may_be_kept : WithinLimits history → (request : HttpRequest) (message : Request) (asked : List ℕ) (wishes : Option (List Wish)) (response : Response) → asked ≡ request.body
      → IsTextOf ReadsRequest request.body message → IfSome wishes (AreWishesOf history message.items) → response.status ≡ Success
      → response.body ≡ updates_text history times message → response.fields.media ≡ Json
      → IsKeptOf history times (record { asked = asked; meaning = wishes; text = response_text response.status response.fields response.body })
  may_be_kept limits request message asked wishes response same reads wish success right json = record {
    asked = record {
      fields = response.fields;
      body = response.body;
      right = (json, (message, subst (λ (a : List ℕ). IsTextOf ReadsRequest a message) (sym same) reads, right));
      whole = ap (λ (s : Status). response_text s response.fields response.body) success;
    };
    wished = of wishes wish;
  }
    where
      of : (ws : Option (List Wish)) → IfSome ws (AreWishesOf history message.items)
          → IfSome ws (λ own. IsTextOfRight (λ status fields body cause. (fields.media ≡ Json) × IsWishedText history times own body) Success [] (response_text response.status response.fields response.body))
      of None are = tt
      of (Some own) are = record {
        fields = response.fields;
        body = response.body;
        right = (json, right ∙ ap spelling_of_response (answered history limits times.wait message own are));
        whole = ap (λ (s : Status). response_text s response.fields response.body) success;
      }

  -- ---- what is sent of it

  pub sent_right : (request : HttpRequest) (response : Response) (sent : Answer) → IsSentAs response sent → IsResponseAt history times 1 request response.status response.fields response.body response.cause
      → IsRightAnswer (IsResponseAt history times 1 request) sent
  sent_right request response (answer.Made made) is right = subst (λ (r : Response). IsResponseAt history times 1 request r.status r.fields r.body r.cause) (sym is) right
  sent_right request response (answer.Written written) is right = record {
    fields = response.fields;
    body = response.body;
    right = subst (λ (s : Status). IsResponseAt history times 1 request s response.fields response.body []) (sym is.0)
        (subst (IsResponseAt history times 1 request response.status response.fields response.body) is.1 right);
    whole = is.2 ∙ ap (λ (s : Status). response_text s response.fields response.body) (sym is.0);
  }
  sent_right request response (answer.Shared shared) is right = record {
    fields = response.fields;
    body = response.body;
    right = subst (λ (s : Status). IsResponseAt history times 1 request s response.fields response.body []) (sym is.0)
        (subst (IsResponseAt history times 1 request response.status response.fields response.body) is.1 right);
    whole = is.2 ∙ ap (λ (s : Status). response_text s response.fields response.body) (sym is.0);
  }

-- ---- a history that may have grown

none_kept : (history : History) (times : Settings) (kept : KeptLists (List Wish)) → AreKeptOf history times (emptied kept)
none_kept history times kept = record { first = All-nil (IsKeptOf history times); others = All-nil (IsKeptOf history times) }

pub kept_or_forgotten : (old new : History) (times : Settings) (kept : KeptLists (List Wish)) (grown : Bool) → (grown ≡ false → new ≡ old) → AreKeptOf old times kept
    → AreKeptOf new times (if grown then emptied kept else kept)
kept_or_forgotten old new times kept true same are = none_kept new times kept
kept_or_forgotten old new times kept false same are = subst (λ (versions : History). AreKeptOf versions times kept) (sym (same refl)) are

-- What is kept stays right.
use Rattle.std.proofs.Common.{◌≡◌, ℕ, Bool, true, false, inl, List, [], ◌∷◌, Option, Some, None, IfSome, refl, sym, ap, ◌∙◌, subst}
use Rattle.std.specs.Prelude.{◌==◌, ◌&&◌, ◌↔◌, IsTrue}
use Rattle.std.specs.Bool.{beq}
use Rattle.std.specs.Cmp.Lexicographic.{pointwise}
use Rattle.std.specs.Option.{option_eq}
use Rattle.std.proofs.lemmas.Bool.{eqb-true}
use Rattle.std.proofs.lemmas.List.Elements.{All-nil}
use Rattle.sb_model.specs.declared.names.ListName.{ListName}
use Rattle.sb_model.specs.Names.{same_name}
use Rattle.http_edge.specs.Responses.{response_text}
use Rattle.http_edge.specs.declared.messages.MediaType.TheVariants.{Json}
use Rattle.http_edge.specs.declared.messages.ResponseFields.{ResponseFields}
use Rattle.http_edge.specs.declared.messages.Status.{Status}
use Rattle.http_edge.specs.declared.messages.Status.TheVariants.{Success}
use Rattle.http_serving.specs.Kept.{emptied, IsSentAs, KeptLists}
use Rattle.http_serving.specs.Written.{IsRightAnswer, IsTextOfRight}
use Rattle.http_serving.specs.declared.kept.KeptAnswer.{KeptAnswer}
use Rattle.http_serving.specs.declared.responses.Answer.{Answer}
use Rattle.http_serving.specs.declared.responses.Answer.TheVariants as answer
use Rattle.http_serving.specs.declared.responses.Response.{Response}
use Rattle.update_messages.specs.Messages.{Request}
use Rattle.update_messages.specs.Reading.{ReadsRequest, IsTextOf}
use Rattle.update_messages.specs.Writing.{spelling_of_response}
use Rattle.mirror_places.specs.Answer.{mirror_answer}
use Rattle.mirror_places.specs.Places.{Places}
use Rattle.mirror_serving.specs.KeptFetches.{AreKeptOfMirror, IsKeptOfMirror}
use Rattle.mirror_serving.specs.PlaceWish.{place_wish_answer, place_wishes_of, same_place_wish, same_place_wishes, IsPlaceWishText}
use Rattle.mirror_serving.specs.Response.{mirror_text, IsFetchResponse, IsMirrorText}
use Rattle.mirror_serving.specs.declared.wish.PlaceWish.{PlaceWish}
use Rattle.mirror_serving.proofs.WishFacts.{answered}

-- ---- which wishes are the same

-- two names with the same codes are one
abbrev pub NamesLaw : Type 0
NamesLaw = (a b : ListName) → IsTrue (same_name a b) ↔ (a ≡ b)

one_place : (a b : Option ℕ) → option_eq (λ place another. place == another) a b ≡ true → a ≡ b
one_place None None is = refl
one_place None (Some q) is = absurd (cc)
one_place (Some p) None is = absurd (cc)
one_place (Some p) (Some q) is = ap Some (eqb-true p q is)

one_choice : (a b : Bool) → beq a b ≡ true → a ≡ b
one_choice true true is = refl
one_choice true false is = absurd (cc)
one_choice false true is = absurd (cc)
one_choice false false is = refl

all_three : (a b c : Bool) → (a && b && c) ≡ true → (a ≡ true) × (b ≡ true) × (c ≡ true)
all_three true true true is = (refl, refl, refl)
all_three true true false is = absurd (cc)
all_three true false c is = absurd (cc)
all_three false b c is = absurd (cc)

both_are : (a b : Bool) → (a && b) ≡ true → (a ≡ true) × (b ≡ true)
both_are true true is = (refl, refl)
both_are true false is = absurd (cc)
both_are false b is = absurd (cc)

module _ (law : NamesLaw) where
  one_wish : (a b : PlaceWish) → same_place_wish a b ≡ true → a ≡ b
  one_wish a b is =
      let made : ListName → Option ℕ → Bool → PlaceWish = λ list place rice. record { list = list; place = place; rice = rice } in
      let all = all_three (same_name a.list b.list) (option_eq (λ place another. place == another) a.place b.place) (beq a.rice b.rice) is in
      ap (λ (l : ListName). made l a.place a.rice) ((law a.list b.list).0 all.0)
      ∙ ap (λ (p : Option ℕ). made b.list p a.rice) (one_place a.place b.place all.1)
      ∙ ap (λ (r : Bool). made b.list b.place r) (one_choice a.rice b.rice all.2)

  ones : (xs ys : List PlaceWish) → pointwise same_place_wish xs ys ≡ true → xs ≡ ys
  ones [] [] is = refl
  ones [] (y ∷ ys) is = absurd (cc)
  ones (x ∷ xs) [] is = absurd (cc)
  ones (x ∷ xs) (y ∷ ys) is =
      let both = both_are (same_place_wish x y) (pointwise same_place_wish xs ys) is in
      ap (λ (w : PlaceWish). w ∷ xs) (one_wish x y both.0) ∙ ap (λ (ws : List PlaceWish). y ∷ ws) (ones xs ys both.1)

-- ---- an answer that is found

module _ (mirror : Places) (wait : ℕ) (asked : List ℕ) where
  abbrev IsRightText : List ℕ → Type 0
  IsRightText text = IsTextOfRight (IsFetchResponse mirror wait asked) Success [] text

  -- the text that is found by the body is that of a right response
  pub said_by_body : (text : List ℕ)
      → (answer : KeptAnswer (List PlaceWish)) × IsKeptOfMirror mirror wait answer × (answer.asked ≡ asked) × (answer.text ≡ text) → IsRightText text
  said_by_body text (answer, is, same, text_is) =
      let said = is.asked in
      record {
        fields = said.fields;
        body = said.body;
        right = (inl (subst (λ (a : List ℕ). IsMirrorText mirror wait a said.body) same said.right.1, refl, refl), said.right.0);
        whole = sym text_is ∙ said.whole;
      }

  -- and so is the one that is found by the wishes
  pub said_by_wishes : NamesLaw → (message : Request) (wishes : List PlaceWish) (text : List ℕ) → IsTextOf ReadsRequest asked message
      → wishes ≡ place_wishes_of mirror message.items
      → (answer : KeptAnswer (List PlaceWish)) × (other : List PlaceWish) × IsKeptOfMirror mirror wait answer × (answer.meaning ≡ Some other)
      × (same_place_wishes other wishes ≡ true) × (answer.text ≡ text) → IsRightText text
  said_by_wishes law message wishes text reads are (answer, other, is, meaning, same, text_is) =
      let own : answer.meaning ≡ Some wishes = meaning ∙ ap Some (ones law other wishes same) in
      let kept : IsTextOfRight (λ status fields body cause. (fields.media ≡ Json) × IsPlaceWishText mirror wait wishes body) Success [] answer.text =
      subst (λ (w : Option (List PlaceWish)). IfSome w (λ ws. IsTextOfRight (λ status fields body cause. (fields.media ≡ Json) × IsPlaceWishText mirror wait ws body) Success [] answer.text)) own is.wished in
      record {
        fields = kept.fields;
        body = kept.body;
        right = (inl ((message, reads, kept.right.1 ∙ ap spelling_of_response (to_message message wishes are)), refl, refl), kept.right.0);
        whole = sym text_is ∙ kept.whole;
      }
    where
      to_message : (message : Request) (wishes : List PlaceWish) → wishes ≡ place_wishes_of mirror message.items → place_wish_answer mirror wait wishes ≡ mirror_answer mirror wait message
      to_message message wishes are = ap (λ (ws : List PlaceWish). place_wish_answer mirror wait ws) are ∙ sym (answered mirror wait message)

  -- ---- what is kept of a text

  -- the text of a response with the status 200 to a message may be kept
  pub may_be_kept : (message : Request) (wishes : List PlaceWish) (response : Response) → IsTextOf ReadsRequest asked message → wishes ≡ place_wishes_of mirror message.items
      → response.status ≡ Success → response.body ≡ mirror_text mirror wait message → response.fields.media ≡ Json
      → IsKeptOfMirror mirror wait (record { asked = asked; meaning = Some wishes; text = response_text response.status response.fields response.body })
  may_be_kept message wishes response reads are success right json = record {
    asked = record {
      fields = response.fields;
      body = response.body;
      right = (json, (message, reads, right));
      whole = ap (λ (s : Status). response_text s response.fields response.body) success;
    };
    wished = record {
      fields = response.fields;
      body = response.body;
      right = (json, right ∙ ap spelling_of_response (answered mirror wait message ∙ ap (λ (ws : List PlaceWish). place_wish_answer mirror wait ws) (sym are)));
      whole = ap (λ (s : Status). response_text s response.fields response.body) success;
    };
  }

-- ---- what is sent of it

pub sent_right : (Right : Status → ResponseFields → (body cause : List ℕ) → Type 0) (response : Response) (sent : Answer) → IsSentAs response sent
    → Right response.status response.fields response.body response.cause → IsRightAnswer Right sent
sent_right Right response (answer.Made made) is right = subst (λ (r : Response). Right r.status r.fields r.body r.cause) (sym is) right
sent_right Right response (answer.Written written) is right = record {
  fields = response.fields;
  body = response.body;
  right = subst (λ (s : Status). Right s response.fields response.body []) (sym is.0) (subst (Right response.status response.fields response.body) is.1 right);
  whole = is.2 ∙ ap (λ (s : Status). response_text s response.fields response.body) (sym is.0);
}
sent_right Right response (answer.Shared shared) is right = record {
  fields = response.fields;
  body = response.body;
  right = subst (λ (s : Status). Right s response.fields response.body []) (sym is.0) (subst (Right response.status response.fields response.body) is.1 right);
  whole = is.2 ∙ ap (λ (s : Status). response_text s response.fields response.body) (sym is.0);
}

-- ---- nothing kept

pub none_kept : (mirror : Places) (wait : ℕ) (kept : KeptLists (List PlaceWish)) → AreKeptOfMirror mirror wait (emptied kept)
none_kept mirror wait kept = record { first = All-nil (IsKeptOfMirror mirror wait); others = All-nil (IsKeptOfMirror mirror wait) }

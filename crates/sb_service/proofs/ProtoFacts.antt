-- What a request in Protocol Buffers comes to: one answer or one fault.
use Rattle.std.proofs.Common.{◌≡◌, ◌≢◌, ◌⊎◌, ℕ, List, [], Option, Some, Result, Ok, Err, IfOk, refl, sym, ap, ◌∙◌, subst, inl, inr}
use Rattle.std.specs.Prelude.{option_map}
use Rattle.sb_model.specs.History.{History}
use Rattle.sb_model.specs.declared.memory.OutOfMemory.{OutOfMemory}
use Rattle.sb_json.specs.Printed.{message_cause_text as message_cause}
use Rattle.sb_json.specs.declared.faults.MessageFault.{MessageFault}
use Rattle.sb_outside.specs.declared.links.Kind.{Kind}
use Rattle.sb_outside.specs.declared.links.Kind.TheVariants.{Update, Find}
use Rattle.http_edge.specs.declared.messages.HttpRequest.{HttpRequest}
use Rattle.http_edge.specs.declared.messages.MediaType.TheVariants as media
use Rattle.http_edge.specs.declared.messages.ResponseFields.{ResponseFields}
use Rattle.http_edge.specs.declared.messages.Status.{Status}
use Rattle.http_edge.specs.declared.messages.Status.TheVariants.{Success, BadRequest}
use Rattle.http_serving.specs.declared.forms.Form.{Form}
use Rattle.http_serving.specs.declared.forms.Form.TheVariants.{Plain, Protobuf, Query}
use Rattle.http_serving.specs.declared.responses.Response.{Response}
use Rattle.proto_messages.specs.Printed.{proto_cause_text}
use Rattle.proto_messages.specs.Query.{QueriesReadOneWay}
use Rattle.proto_messages.specs.declared.fault.ProtoFault.{ProtoFault}
use Rattle.proto_messages.specs.declared.fault.ProtoFault.TheVariants as proto
use Rattle.proto_messages.specs.Fetch.{fetch_of}
use Rattle.proto_messages.specs.Find.{find_of}
use Rattle.delta_server.specs.declared.answering.Settings.{Settings}
use Rattle.sb_service.specs.Connection.{IsCauseInForm, IsResponseFor, IsTextInForm}
use Rattle.sb_service.specs.ConnectionSteps.{IsProtoRefusal, proto_route}
use Rattle.sb_service.specs.ProtoTexts.{matches_bytes, queried_text, updates_bytes, IsMessageFault, IsProtoFault, IsProtoMessage, IsProtoText}

ok_of : {A : Type 0} (r : Result A ProtoFault) (a b : A) → r ≡ Ok a → r ≡ Ok b → a ≡ b
ok_of r a b is is' = cc

err_of : {A : Type 0} (r : Result A ProtoFault) (a b : ProtoFault) → r ≡ Err a → r ≡ Err b → a ≡ b
err_of r a b is is' = cc

no_both : {A : Type 0} (r : Result A ProtoFault) (a : A) (b : ProtoFault) → r ≡ Ok a → r ≡ Err b → ⊥
no_both r a b is is' = cc

some_of : {A : Type 0} (a b : A) → Some a ≡ Some b → a ≡ b
some_of a b e = cc

-- ---- one message, one answer

module _ (one : QueriesReadOneWay) where
  one_message_in : (form : Form) (request : HttpRequest) (a b : List ℕ) → IsProtoMessage form request a → IsProtoMessage form request b → a ≡ b
  one_message_in Plain request a b is is' = absurd is
  one_message_in Protobuf request a b is is' = is ∙ sym is'
  one_message_in Query request a b is is' = one (queried_text request) a b is is'

  module _ (history : History) (times : Settings) where
    one_proto_text : (wanted : Kind) (message a b : List ℕ) → IsProtoText history times wanted message a → IsProtoText history times wanted message b → a ≡ b
    one_proto_text Update message a b (m, reads, is) (n, reads', is') =
        is ∙ ap (updates_bytes history times) (ok_of _ m n reads reads') ∙ sym is'
    one_proto_text Find message a b (m, reads, is) (n, reads', is') =
        is ∙ ap (matches_bytes history times) (ok_of _ m n reads reads') ∙ sym is'

    -- a request has one answer by its form, where a body has one in JSON
    pub one_in_form : (wanted : Kind) (InJson : List ℕ → List ℕ → Type 0) → ((body a b : List ℕ) → InJson body a → InJson body b → a ≡ b)
        → (form : Form) (request : HttpRequest) (a b : List ℕ) → IsTextInForm InJson (IsProtoText history times wanted) form request a
        → IsTextInForm InJson (IsProtoText history times wanted) form request b → a ≡ b
    one_in_form wanted InJson json Plain request a b is is' = json request.body a b is is'
    one_in_form wanted InJson json Protobuf request a b (m, ms, is) (n, ns, is') =
        one_proto_text wanted n a b (subst (λ (t : List ℕ). IsProtoText history times wanted t a) (one_message_in Protobuf request m n ms ns) is) is'
    one_in_form wanted InJson json Query request a b (m, ms, is) (n, ns, is') =
        one_proto_text wanted n a b (subst (λ (t : List ℕ). IsProtoText history times wanted t a) (one_message_in Query request m n ms ns) is) is'

    unread : (wanted : Kind) (message text : List ℕ) (fault : ProtoFault) → IsProtoText history times wanted message text → IsMessageFault wanted message fault → ⊥
    unread Update message text fault (asked, reads, is) wrong = no_both _ asked fault reads wrong
    unread Find message text fault (asked, reads, is) wrong = no_both _ asked fault reads wrong

    -- a request with a fault has no answer
    no_text : (wanted : Kind) (form : Form) (request : HttpRequest) (fault : ProtoFault) → IsProtoFault wanted form request fault
        → (text message : List ℕ) → IsProtoMessage form request message → IsProtoText history times wanted message text → ⊥
    no_text wanted form request fault (inl (none, is)) text message spelled has = none message spelled
    no_text wanted form request fault (inr (n, ns, wrong)) text message spelled has =
        unread wanted n text fault (subst (λ (t : List ℕ). IsProtoText history times wanted t text) (one_message_in form request message n spelled ns) has) wrong

  -- ---- one fault

  one_message_fault : (wanted : Kind) (message : List ℕ) (a b : ProtoFault) → IsMessageFault wanted message a → IsMessageFault wanted message b → a ≡ b
  one_message_fault Update message a b is is' = err_of (fetch_of message) a b is is'
  one_message_fault Find message a b is is' = err_of (find_of message) a b is is'

  one_proto_fault : (wanted : Kind) (form : Form) (request : HttpRequest) (a b : ProtoFault) → IsProtoFault wanted form request a → IsProtoFault wanted form request b → a ≡ b
  one_proto_fault wanted form request a b (inl (none, is)) (inl (none', is')) = is ∙ sym is'
  one_proto_fault wanted form request a b (inl (none, is)) (inr (m, ms, is')) = absurd (none m ms)
  one_proto_fault wanted form request a b (inr (m, ms, is)) (inl (none, is')) = absurd (none m ms)
  one_proto_fault wanted form request a b (inr (m, ms, is)) (inr (n, ns, is')) =
      one_message_fault wanted n a b (subst (λ (t : List ℕ). IsMessageFault wanted t a) (one_message_in form request m n ms ns) is) is'

  one_json_cause : (fault_in : List ℕ → Option MessageFault) (body a b : List ℕ)
      → option_map message_cause (fault_in body) ≡ Some a → option_map message_cause (fault_in body) ≡ Some b → a ≡ b
  one_json_cause fault_in body a b is is' = some_of a b (sym is ∙ is')

  -- a request has one cause by its form
  pub one_cause_in_form : (fault_in : List ℕ → Option MessageFault) (wanted : Kind) (form : Form) (request : HttpRequest) (a b : List ℕ)
      → IsCauseInForm fault_in wanted form request a → IsCauseInForm fault_in wanted form request b → a ≡ b
  one_cause_in_form fault_in wanted Plain request a b is is' = one_json_cause fault_in request.body a b is is'
  one_cause_in_form fault_in wanted Protobuf request a b (f, wrong, is) (g, wrong', is') =
      is ∙ ap proto_cause_text (one_proto_fault wanted Protobuf request f g wrong wrong') ∙ sym is'
  one_cause_in_form fault_in wanted Query request a b (f, wrong, is) (g, wrong', is') =
      is ∙ ap proto_cause_text (one_proto_fault wanted Query request f g wrong wrong') ∙ sym is'

-- ---- the response to a request in Protocol Buffers

module _ (history : History) (times : Settings) (request : HttpRequest) where
  -- one with an answer
  pub answered_in_proto : (wanted : Kind) (form : Form) (fields : ResponseFields) (body cause : List ℕ) → form ≢ Plain
      → IsTextInForm (IsProtoText history times wanted) (IsProtoText history times wanted) form request body → fields.media ≡ media.Protobuf → cause ≡ []
      → IsResponseFor history times (proto_route wanted form) request Success fields body cause
  answered_in_proto Update Plain fields body cause some has named none = absurd (some refl)
  answered_in_proto Find Plain fields body cause some has named none = absurd (some refl)
  answered_in_proto Update Protobuf fields body cause some has named none = (has, named, none)
  answered_in_proto Update Query fields body cause some has named none = (has, named, none)
  answered_in_proto Find Protobuf fields body cause some has named none = (has, named, none)
  answered_in_proto Find Query fields body cause some has named none = (has, named, none)

  refused_with : QueriesReadOneWay → (wanted : Kind) (form : Form) (fault : ProtoFault) (fields : ResponseFields) (body cause : List ℕ) → form ≢ Plain
      → IsProtoFault wanted form request fault → fields.media ≡ media.Protobuf → body ≡ [] → cause ≡ proto_cause_text fault
      → IsResponseFor history times (proto_route wanted form) request BadRequest fields body cause
  refused_with one Update Plain fault fields body cause some wrong named bare told = absurd (some refl)
  refused_with one Find Plain fault fields body cause some wrong named bare told = absurd (some refl)
  refused_with one Update Protobuf fault fields body cause some wrong named bare told =
      (λ text has. no_text one history times Update Protobuf request fault wrong text has.0 has.1 has.2, named, bare, (fault, wrong, told))
  refused_with one Update Query fault fields body cause some wrong named bare told =
      (λ text has. no_text one history times Update Query request fault wrong text has.0 has.1 has.2, named, bare, (fault, wrong, told))
  refused_with one Find Protobuf fault fields body cause some wrong named bare told =
      (λ text has. no_text one history times Find Protobuf request fault wrong text has.0 has.1 has.2, named, bare, (fault, wrong, told))
  refused_with one Find Query fault fields body cause some wrong named bare told =
      (λ text has. no_text one history times Find Query request fault wrong text has.0 has.1 has.2, named, bare, (fault, wrong, told))

  -- one with a fault, unless memory was refused
  pub refused_in_proto : QueriesReadOneWay → (wanted : Kind) (form : Form) (fault : ProtoFault) (result : Result Response OutOfMemory) → form ≢ Plain
      → (fault ≡ proto.OutOfMemory) ⊎ IsProtoFault wanted form request fault
      → IfOk result (λ r. IsProtoRefusal fault r.status r.fields r.body r.cause)
      → IfOk result (λ r. IsResponseFor history times (proto_route wanted form) request r.status r.fields r.body r.cause)
  refused_in_proto one wanted form fault (Err refused) some wrong is = tt
  refused_in_proto one wanted form fault (Ok r) some (inl memory) is = absurd (is.some memory)
  refused_in_proto one wanted form fault (Ok r) some (inr wrong) is =
      subst (λ (s : Status). IsResponseFor history times (proto_route wanted form) request s r.fields r.body r.cause) (sym is.bad)
      (refused_with one wanted form fault r.fields r.body r.cause some wrong is.media is.bare is.told)

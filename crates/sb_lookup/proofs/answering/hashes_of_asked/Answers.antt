use Rattle.std.proofs.Common.{◌≡◌, Result, Err, subst, ◌∙◌}
use Rattle.url_canon.specs.Url.{Url}
use Rattle.url_canon.specs.Canonical.{canonical_of, Answers}
use Rattle.url_canon.specs.declared.fault.UrlFault.{UrlFault}
use Rattle.url_canon.specs.declared.fault.UrlFault.TheVariants as fault
use Rattle.sb_lookup.proofs.Asked.{asked_form}
use Rattle.sb_lookup.proofs.answering.hashes_of_asked.Goals as goal

pub returns-in_ok-url_hashes-in-Ok-clause-some : goal.returns-in_ok-url_hashes-in-Ok-clause-some
returns-in_ok-url_hashes-in-Ok-clause-some c = (
  c.in-Ok.url,
  asked_form c.args.url.now c.as_str.result.now c.as_bytes.result.now c.as_str.utf8 c.as_str.ensures c.as_bytes.ensures.value ∙ c.in-Ok.ensures.exact,
  c.in_ok-url_hashes-in-Ok.ensures.value,
)

-- what is said of a fault is said of the same fault
refused : (one other : UrlFault) (form : Result Url UrlFault) → one ≡ other → Answers (Err one) form → Answers (Err other) form
refused one other form same says = subst (λ (f : UrlFault). Answers (Err f) form) same says

pub returns-in-Err-Empty : goal.returns-in-Err-Empty
returns-in-Err-Empty c = record {
  some = tt;
  none = (
    fault.Empty,
    asked_form c.args.url.now c.as_str.result.now c.as_bytes.result.now c.as_str.utf8 c.as_str.ensures c.as_bytes.ensures.value
        ∙ refused c.in-Err-Empty.field-0 (fault.Empty) (canonical_of c.as_bytes.result.now) c.in-Err-Empty.field-0-is c.in-Err-Empty.ensures.exact,
  );
}

pub returns-in-Err-NoHost : goal.returns-in-Err-NoHost
returns-in-Err-NoHost c = record {
  some = tt;
  none = (
    fault.NoHost,
    asked_form c.args.url.now c.as_str.result.now c.as_bytes.result.now c.as_str.utf8 c.as_str.ensures c.as_bytes.ensures.value
        ∙ refused c.in-Err-NoHost.field-0 (fault.NoHost) (canonical_of c.as_bytes.result.now) c.in-Err-NoHost.field-0-is c.in-Err-NoHost.ensures.exact,
  );
}

pub returns-in-Err-TooLong : goal.returns-in-Err-TooLong
returns-in-Err-TooLong c = record {
  some = tt;
  none = (
    fault.TooLong c.in-Err-TooLong.field-0-0,
    asked_form c.args.url.now c.as_str.result.now c.as_bytes.result.now c.as_str.utf8 c.as_str.ensures c.as_bytes.ensures.value
        ∙ refused c.in-Err-TooLong.field-0 (fault.TooLong c.in-Err-TooLong.field-0-0) (canonical_of c.as_bytes.result.now) c.in-Err-TooLong.field-0-is c.in-Err-TooLong.ensures.exact,
  );
}

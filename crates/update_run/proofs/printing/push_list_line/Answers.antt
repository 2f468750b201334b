use Rattle.update_run.proofs.Fronts.{front_of, on_err_of}
use Rattle.update_run.proofs.printing.push_list_line.Goals as goal

pub returns-in_err-push_token-clause-front : goal.returns-in_err-push_token-clause-front
returns-in_err-push_token-clause-front c =
    let new = c.push_token.new.page in
    let named = front_of c.push_name.new.page _ c.push.new.self new c.in_ok-push.ensures.ok
    (front_of c.push.new.self _ c.append_decimal.new.self new c.in_ok-append_decimal.ensures.ok
    (front_of c.append_decimal.new.self _ c.push-2.new.self new c.in_ok-push-2.ensures.ok c.in_err-push_token.ensures.front)) in
    on_err_of c.from_residual-in_err-push_token.result
    (front_of c.args.page.now _ c.append.new.self new c.in_ok-append.ensures.ok
    (front_of c.append.new.self _ c.push_name.new.page new c.in_ok-push_name.ensures.ok named))

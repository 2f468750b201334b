use Rattle.std.proofs.Common.{ℕ, sym, subst}
use Rattle.sb_service.specs.Serving.{IsServeRun, serve_view}
use Rattle.sb_service.proofs.Runs.{ReadsOrFails, answered, served, none_risen, not_risen, not_8, zero_or_memory}
use Rattle.sb_service.proofs.Commands.{is_answer, is_exercise, is_generate, is_other, is_serve, is_tell, made_exercise, made_generate, made_tell}
use Rattle.sb_service.proofs.Turns.{nothing_done}
use Rattle.sb_service.proofs.Journals.{served_to_the_end}
use Rattle.sb_service.proofs.service.run_server.Goals as goal

pub returns-in-Ok-Some-clause-answers : goal.returns-in-Ok-Some-clause-answers
returns-in-Ok-Some-clause-answers g c answer words other =
    c.run_command.ensures.answers answer.kind answer.settings (is_answer _ _ _ answer c.in-Ok-Some.ensures c.in-Ok-Some.field-0-is words) other

pub returns-in-Ok-Some-clause-complete : goal.returns-in-Ok-Some-clause-complete
returns-in-Ok-Some-clause-complete g c answer pieces bodies kept text words told is given short has journal input out =
    let law : ReadsOrFails = record {
      once = record { updates = c.values_read_one_way.ensures.request; hashes = c.find_values_read_one_way.ensures.request; lookups = c.lookup_values_read_one_way.ensures.request };
      fetch = c.values_read_or_have_a_fault.ensures.request;
      find = c.find_values_read_or_have_a_fault.ensures.request;
      lookup = c.lookup_values_read_or_have_a_fault.ensures.request;
    } in
    let counts = c.run_command.ensures.counts in
    zero_or_memory c.run_command.result c.run_command.ensures.statuses (λ other.
    answered law answer.settings answer.kind c.run_command.result pieces bodies _ _ _ _ _ _ kept text told is given short has
    (c.run_command.ensures.answers answer.kind answer.settings (is_answer _ _ _ answer c.in-Ok-Some.ensures c.in-Ok-Some.field-0-is words) other)
    (λ two. none_risen _ _ _ _ journal input (counts.read two))
    (λ three. not_risen _ _ out (counts.written three)))

pub returns-in-Ok-Some-clause-served : goal.returns-in-Ok-Some-clause-served
returns-in-Ok-Some-clause-served g c answer pieces bodies kept text words told is given has zero =
    let law : ReadsOrFails = record {
      once = record { updates = c.values_read_one_way.ensures.request; hashes = c.find_values_read_one_way.ensures.request; lookups = c.lookup_values_read_one_way.ensures.request };
      fetch = c.values_read_or_have_a_fault.ensures.request;
      find = c.find_values_read_or_have_a_fault.ensures.request;
      lookup = c.lookup_values_read_or_have_a_fault.ensures.request;
    } in
    served law answer.settings answer.kind c.run_command.result pieces bodies _ _ _ _ _ _ kept text told is given has
    (c.run_command.ensures.answers answer.kind answer.settings (is_answer _ _ _ answer c.in-Ok-Some.ensures c.in-Ok-Some.field-0-is words) (not_8 _ zero)) zero

pub returns-in-Ok-Some-clause-memory : goal.returns-in-Ok-Some-clause-memory
returns-in-Ok-Some-clause-memory g c none eight =
    c.run_command.ensures.memory (is_other _ _ _ c.in-Ok-Some.ensures c.in-Ok-Some.field-0-is none) eight

pub returns-in-Ok-Some-clause-door : goal.returns-in-Ok-Some-clause-door
returns-in-Ok-Some-clause-door g c none =
    c.run_command.ensures.untouched (is_other _ _ _ c.in-Ok-Some.ensures c.in-Ok-Some.field-0-is none)

pub returns-in-Ok-Some-clause-serves : goal.returns-in-Ok-Some-clause-serves
returns-in-Ok-Some-clause-serves g c line words =
    c.run_command.ensures.serves line.plan (is_serve _ _ _ line c.in-Ok-Some.ensures c.in-Ok-Some.field-0-is words)

pub returns-in-Ok-Some-clause-no_input : goal.returns-in-Ok-Some-clause-no_input
returns-in-Ok-Some-clause-no_input g c line words =
    c.run_command.ensures.unread line.plan (is_serve _ _ _ line c.in-Ok-Some.ensures c.in-Ok-Some.field-0-is words)

pub returns-in-Err-clause-serves : goal.returns-in-Err-clause-serves
returns-in-Err-clause-serves g c line words =
    let view = serve_view (g.J.Source.left c.args.journal.now) (g.O.Sink.contents c.args.out.now) (g.D.Door.log c.args.door.now) (g.D.Door.coming c.args.door.now) in
    subst (λ (status : ℕ). IsServeRun line.plan status view view) (sym c.status_of.ensures) (nothing_done line.plan view)

pub returns-in-Ok-Some-clause-serves_all : goal.returns-in-Ok-Some-clause-serves_all
returns-in-Ok-Some-clause-serves_all g c line pieces words told none journal out door =
    let is = is_serve _ _ _ line c.in-Ok-Some.ensures c.in-Ok-Some.field-0-is words in
    let counts = c.run_command.ensures.counts in
    zero_or_memory c.run_command.result c.run_command.ensures.statuses (λ other.
    served_to_the_end c.cuts_make_no_difference.ensures line.plan c.run_command.result pieces _ _ told none
    (c.run_command.ensures.serves line.plan is) (record {
      no_memory = other;
      no_read = λ two. not_risen _ _ journal (c.run_command.ensures.journal_failed line.plan is two);
      no_write = λ three. not_risen _ _ out (counts.written three);
      no_door = λ nine. not_risen _ _ door (counts.door_failed nine);
    }))

pub returns-in-Ok-Some-clause-generates : goal.returns-in-Ok-Some-clause-generates
returns-in-Ok-Some-clause-generates g c line words =
    c.run_command.ensures.generates line.urls line.load (is_generate _ _ _ line c.in-Ok-Some.ensures c.in-Ok-Some.field-0-is words)

pub returns-in-Ok-Some-clause-none_read : goal.returns-in-Ok-Some-clause-none_read
returns-in-Ok-Some-clause-none_read g c line words =
    c.run_command.ensures.nothing_read (made_generate _ line.urls line.load (is_generate _ _ _ line c.in-Ok-Some.ensures c.in-Ok-Some.field-0-is words))

pub returns-in-Ok-Some-clause-exercises : goal.returns-in-Ok-Some-clause-exercises
returns-in-Ok-Some-clause-exercises g c load words =
    c.run_command.ensures.exercises load (is_exercise _ _ _ load c.in-Ok-Some.ensures c.in-Ok-Some.field-0-is words)

pub returns-in-Ok-Some-clause-not_read : goal.returns-in-Ok-Some-clause-not_read
returns-in-Ok-Some-clause-not_read g c load words =
    c.run_command.ensures.nothing_read (made_exercise _ load (is_exercise _ _ _ load c.in-Ok-Some.ensures c.in-Ok-Some.field-0-is words))

pub returns-in-Ok-Some-clause-tells : goal.returns-in-Ok-Some-clause-tells
returns-in-Ok-Some-clause-tells g c about words =
    c.run_command.ensures.tells about (is_tell _ _ _ about c.in-Ok-Some.ensures c.in-Ok-Some.field-0-is words)

pub returns-in-Ok-Some-clause-unasked : goal.returns-in-Ok-Some-clause-unasked
returns-in-Ok-Some-clause-unasked g c about words =
    c.run_command.ensures.nothing_read (made_tell _ about (is_tell _ _ _ about c.in-Ok-Some.ensures c.in-Ok-Some.field-0-is words))

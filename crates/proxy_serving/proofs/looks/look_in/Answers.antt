use Rattle.proxy_serving.proofs.looks.look_in.Goals as goal

pub returns-in_default : goal.returns-in_default
returns-in_default c = record { some = tt; none = λ reads. c.in_default.not-OutOfMemory (c.in-Err.ensures.only reads.0 reads.1) }

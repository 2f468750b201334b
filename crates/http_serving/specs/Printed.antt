-- What is printed of a connection.
use Rattle.std.specs.Prelude.{ℕ, List, [], ◌∷◌, ◌++◌, codes, decimal}
use Rattle.http_edge.specs.Responses.{status_code}
use Rattle.http_serving.specs.declared.ends.ConnectionEnd.{ConnectionEnd}
use Rattle.http_serving.specs.declared.ends.ConnectionEnd.TheVariants as end

-- a cause behind a status, where there is one
abbrev pub cause_part : List ℕ → List ℕ
cause_part [] = []
cause_part (first ∷ rest) = codes " " ++ (first ∷ rest)

-- how a connection ended
abbrev pub connection_end_text : ConnectionEnd → List ℕ
connection_end_text (end.Answered status cause) = codes "answered " ++ decimal (status_code status) ++ cause_part cause
connection_end_text end.ReadFault = codes "read-fault"
connection_end_text end.WriteFault = codes "write-fault"
connection_end_text end.OutOfMemory = codes "out-of-memory"

-- the line of a connection, by its number
abbrev pub connection_line : ℕ → ConnectionEnd → List ℕ
connection_line number how = codes "connection " ++ decimal number ++ codes " " ++ connection_end_text how ++ codes "\n"

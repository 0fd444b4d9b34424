-- How a session ends by what halts it.
use Rattle.std.specs.Prelude.{Result, Ok, Err}
use Rattle.nbd_serve.specs.declared.end.End.{End}
use Rattle.nbd_serve.specs.declared.end.End.TheVariants as end
use Rattle.nbd_serve.specs.declared.halt.Halt.{Halt}
use Rattle.nbd_serve.specs.declared.halt.Halt.TheVariants as halt

abbrev pub end_of : Halt → End
end_of halt.Disconnected = end.Disconnected
end_of halt.Aborted = end.Aborted
end_of halt.Cut = end.Cut
end_of halt.Garbage = end.Garbage
end_of halt.Limit = end.Limit
end_of halt.Memory = end.Memory
end_of (halt.ReadBroke broke) = end.ReadFault
end_of (halt.WriteBroke broke) = end.WriteFault

-- what a part of a session ends with
abbrev pub ended : Result (Unit {0}) Halt → Result (Unit {0}) End
ended (Ok u) = Ok u
ended (Err last) = Err (end_of last)

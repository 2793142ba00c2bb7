-- `log_form::put_bytes` meets its contract. The invariant: the bytes gone over are stored. Assumes nothing.
use Rattle.std.proofs.Common.{take}
use Rattle.log_form.specs.Promises.{Put}
use Rattle.log_form.proofs.put_bytes.Given as goal

abbrev pub invariant-loop-byte : goal.invariant-loop-byte
invariant-loop-byte l = Put l.initial.out l.at (take l.byte-index l.bytes) l.out l.i

-- `log_form::put_bytes` meets its contract. Assumes nothing.
use Rattle.std.proofs.Common.{refl}
use Rattle.log_form.proofs.StoreLaws.{putting_more}
use Rattle.log_form.proofs.put_bytes.Goals as goal

pub loop-byte-preserved : goal.loop-byte-preserved
loop-byte-preserved c = putting_more _ c.loop-byte.invariant c.loop-byte-test.true refl c.put_byte-i.ensures

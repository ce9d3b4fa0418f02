use Rattle.std.proofs.Common.{◌∙◌}
use native.Mathlib.Omega.{arith}
use borrow.Author.Tests.{lt-leb}
use Rattle.field.specs.Modulus.{prime_of}
use Rattle.tables.proofs.Tables.{short-not}
use Rattle.lamp.proofs.admission.is_table.Goals as goal

pub returns-else-n-le16 : goal.returns-else-n-le16
returns-else-n-le16 c =
    let a = c.args in
    lt-leb a.n 16 c.if-n-le16.false ∙ short-not (prime_of a.w) a.n a.table (omega arith)

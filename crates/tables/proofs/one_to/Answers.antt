use Rattle.std.proofs.Common.{◌∙◌, rules, arith}
use Rattle.lists.proofs.Places.{from_fn_made}
use Rattle.tables.specs.Tables.{one_to}
use Rattle.tables.proofs.Tables.{length-one-to, one_to_at, one-to-padded, kept_whole}
use Rattle.tables.proofs.one_to.Goals as goal

pub returns : goal.returns
returns c =
    let n = c.args.n in
    from_fn_made c.from_fn.result (one_to_at n) (λ k y q called. search rules) c.from_fn.ensures.items
    ∙ one-to-padded n (omega arith)
    ∙ kept_whole n (one_to n) (omega arith) (length-one-to n)

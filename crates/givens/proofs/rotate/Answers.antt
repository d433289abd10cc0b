-- Where the test holds the columns can be worked in 32-bit words, and any words in 64-bit ones. Assumes nothing.
use Rattle.std.proofs.Common.{◌*◌, ◌∙◌, sym, arith}
use Rattle.narrow.proofs.Norms.{bounded_columns}
use Rattle.givens.proofs.rotate.Goals as goal

pub rotate_in-saturations-requires : goal.rotate_in-saturations-requires
rotate_in-saturations-requires c =
    let a = c.args in
    (omega arith, ((omega arith, c.requires.1, c.requires.2), bounded_columns (a.gap * 32) a.column a.part.now (sym c.norms_bounded.ensures ∙ c.if-norms_bounded.true)))

pub rotate_in-saturations-requires-else-norms_bounded : goal.rotate_in-saturations-requires-else-norms_bounded
rotate_in-saturations-requires-else-norms_bounded c = (omega arith, ((omega arith, c.requires.1, c.requires.2), λ k from below. tt))

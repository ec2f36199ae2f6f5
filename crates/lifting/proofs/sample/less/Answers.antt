-- `lifting::sample::less` meets its contract: what is wrapped is small, so 64 bits hold it. Assumes nothing.
use borrow.Author.Rules.{sfits_of}
use mathlib.Core.Path.{◌∙◌, ap}
use mir.Syntax.{w32, w64}
use mir.ValLaws.{to_z-of_z}
use Rattle.numbers.specs.Word.{wrap32}
use Rattle.lifting.proofs.Fits.{sums, difference-small}
use Rattle.lifting.proofs.sample.less.Goals as goal

pub overflow_cast-x : goal.overflow_cast-x
overflow_cast-x c = search sums

pub overflow_cast-f : goal.overflow_cast-f
overflow_cast-f c = search sums

pub overflow_sub-x : goal.overflow_sub-x
overflow_sub-x c = search sums

pub wrap-requires : goal.wrap-requires
wrap-requires c = rw (to_z-of_z w64 _ (overflow_sub-x c)) (search (sums, difference-small))

pub returns : goal.returns
returns c = to_z-of_z w32 _ (sfits_of c.wrap.type_inv) ∙ c.wrap.ensures ∙ ap wrap32 (to_z-of_z w64 _ (overflow_sub-x c.before) ∙ search sums)

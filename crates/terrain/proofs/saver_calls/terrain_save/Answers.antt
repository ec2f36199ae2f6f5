-- `terrain_save` meets its contract: what the call on the unpacked saver gives, and 1 where the array is none. Assumes nothing.
use mathlib.Core.Path.{◌∙◌}
use Rattle.ground_file.specs.Saving.{of_saved}
use Rattle.terrain.proofs.SaverLaws.{saving-other, saving-own, saved-number}
use Rattle.terrain.proofs.saver_calls.terrain_save.Goals as goal

pub returns-then-not-is_saver : goal.returns-then-not-is_saver
returns-then-not-is_saver c =
    let a = c.args in
    saving-other a.plane.now a.state.now a.out.now a.written.now c.is_saver.result c.is_saver.ensures c.if-not-is_saver.true-raw

pub shape_of-out : goal.shape_of-out
shape_of-out c = c.save.auto.out

pub returns : goal.returns
returns c =
    let a = c.args in
    let s = c.unpack_saver-s.result in
    saving-own a.plane.now a.state.now a.out.now a.written.now c.is_saver.result c.is_saver.ensures c.if-not-is_saver.false-raw
    c.unpack_saver-s.result c.unpack_saver-s.ensures _ (of_saved s c.save.result) c.save.ensures _ _ _ (c.pack_saved.ensures.value ∙ saved-number s c.save.result)
    (c.pack_saved.ensures.s_after s) (c.pack_saved.ensures.written_after s)

-- `inputs::read_texts` meets its contract: the list, then the bases, then the streams. Assumes nothing.
use Rattle.std.proofs.Common.{arith, refl, sym, ◌∙◌}
use lib.Seq.{length-take-le}
use Rattle.inputs.proofs.Reading.{texts_refused, some_texts, list_within, bases_apart, bases_within, texts_wrong, texts_read}
use Rattle.inputs.proofs.read_texts.Goals as goal

pub returns-then-not-is_sized : goal.returns-then-not-is_sized
returns-then-not-is_sized c = texts_refused _ _ _ _ _ _ _ (sym c.is_sized.ensures ∙ c.if-not-is_sized.true) c.requires

pub bounds-texts-0 : goal.bounds-texts-0
bounds-texts-0 c =
    omega (arith, some_texts c.args.texts.bytes.now c.args.texts.ends.now (sym c.is_sized.ensures ∙ c.if-not-is_sized.false))

pub bounds-texts-1 : goal.bounds-texts-1
bounds-texts-1 c =
    omega (arith, some_texts c.args.texts.bytes.now c.args.texts.ends.now (sym c.is_sized.ensures ∙ c.if-not-is_sized.false))

pub slice_bounds-list-end : goal.slice_bounds-list-end
slice_bounds-list-end c =
    sym (length-take-le _ _ (list_within c.args.texts.bytes.now c.args.texts.ends.now (sym c.is_sized.ensures ∙ c.if-not-is_sized.false)))

pub slice_bounds-read_part-count : goal.slice_bounds-read_part-count
slice_bounds-read_part-count c =
    bases_apart c.args.texts.bytes.now c.args.texts.ends.now (sym c.is_sized.ensures ∙ c.if-not-is_sized.false)

pub slice_bounds-read_part-start : goal.slice_bounds-read_part-start
slice_bounds-read_part-start c =
    bases_apart c.args.texts.bytes.now c.args.texts.ends.now (sym c.is_sized.ensures ∙ c.if-not-is_sized.false)

pub slice_bounds-read_part-end : goal.slice_bounds-read_part-end
slice_bounds-read_part-end c =
    bases_within c.args.texts.bytes.now c.args.texts.ends.now (sym c.is_sized.ensures ∙ c.if-not-is_sized.false)

pub overflow_sub-read : goal.overflow_sub-read
overflow_sub-read c =
    omega (arith, some_texts c.args.texts.bytes.now c.args.texts.ends.now (sym c.is_sized.ensures ∙ c.if-not-is_sized.false))

pub returns-in-Ok : goal.returns-in-Ok
returns-in-Ok c =
    texts_read _ _ _ _ _ _ _ _ _ _ _ (sym c.is_sized.ensures ∙ c.if-not-is_sized.false) c.read_names-named.ensures.0 c.read_names-named.ensures.1 c.read_names-named.ensures.2 c.read_names-named.ensures.3 c.read_part-r.ensures c.requires.base_chrom c.requires.base_start c.requires.base_stop c.read_streams-s.ensures _ _ _ _ _ c.verdict_at.ensures c.and.ensures c.and-2.ensures c.rows_ahead.ensures refl c.in-Ok.is

pub returns-in-Err : goal.returns-in-Err
returns-in-Err c =
    texts_wrong _ _ _ _ _ _ _ _ _ _ _ (sym c.is_sized.ensures ∙ c.if-not-is_sized.false) c.read_names-named.ensures.0 c.read_names-named.ensures.1 c.read_names-named.ensures.2 c.read_names-named.ensures.3 c.read_part-r.ensures c.requires.base_chrom c.requires.base_start c.requires.base_stop c.read_streams-s.ensures _ _ _ _ _ c.verdict_at.ensures c.and.ensures c.and-2.ensures c.rows_ahead.ensures refl _ c.in-Err.is

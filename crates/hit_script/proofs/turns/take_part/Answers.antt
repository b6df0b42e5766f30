use Rattle.std.proofs.Common.{[], sym, ap, ◌∙◌, arith}
use Rattle.hit_script.specs.Cutting.{Counted, counted, cut_by_newline}
use Rattle.hit_script.proofs.Answering.{appends_nothing}
use Rattle.hit_script.proofs.CutLaws.{count-counted, cutting-count, cutting-over, cutting-some, cutting-within, goes_on_by, ended_by}
use Rattle.hit_script.proofs.Logs.{grows_same}
use Rattle.hit_script.proofs.turns.take_part.Goals as goal

-- The line goes on.

pub returns-in-More-clause-some : goal.returns-in-More-clause-some
returns-in-More-clause-some g c =
    omega (arith, c.take_piece-count.ensures.taken, cutting-some c.args.piece.now c.args.cutter.now c.requires.some)

pub returns-in-More-clause-within : goal.returns-in-More-clause-within
returns-in-More-clause-within g c =
    omega (arith, c.take_piece-count.ensures.taken, cutting-within c.args.piece.now c.args.cutter.now)

pub returns-in-More-clause-fits : goal.returns-in-More-clause-fits
returns-in-More-clause-fits g c =
    omega (arith, c.take_piece-count.ensures.taken, ap (λ (x : Counted). x.count) c.take_piece-count.ensures.counted, cutting-count c.args.piece.now c.args.cutter.now)

pub returns-in-More-clause-begun : goal.returns-in-More-clause-begun
returns-in-More-clause-begun g c = λ begun has.
    let took = c.take_piece-count.ensures in
    (goes_on_by c.args.cutter.now begun c.args.piece.now c.take_piece-count.result.0 c.take_piece-count.new.self has took.taken took.counted (sym took.cut ∙ c.in-More.is)).counts

pub returns-in-More-clause-replies : goal.returns-in-More-clause-replies
returns-in-More-clause-replies g c = λ begun has.
    let took = c.take_piece-count.ensures in
    let on = goes_on_by c.args.cutter.now begun c.args.piece.now c.take_piece-count.result.0 c.take_piece-count.new.self has took.taken took.counted (sym took.cut ∙ c.in-More.is) in
    rw on.none_whole (appends_nothing _ c.args.out.now.items)

-- The line ends.

pub answer_cut-requires-clause-cut : goal.answer_cut-requires-clause-cut
answer_cut-requires-clause-cut g c =
    let took = c.take_piece-count.ensures in
    took.cut ∙ cutting-over c.args.piece.now c.args.cutter.now (λ more. c.in_default.not-More (took.cut ∙ more)) ∙ ap cut_by_newline (sym took.counted)

pub returns-in_ok-answer_cut-in_default-clause-some : goal.returns-in_ok-answer_cut-in_default-clause-some
returns-in_ok-answer_cut-in_default-clause-some g c =
    omega (arith, c.take_piece-count.ensures.taken, cutting-some c.args.piece.now c.args.cutter.now c.requires.some)

pub returns-in_ok-answer_cut-in_default-clause-within : goal.returns-in_ok-answer_cut-in_default-clause-within
returns-in_ok-answer_cut-in_default-clause-within g c =
    omega (arith, c.take_piece-count.ensures.taken, cutting-within c.args.piece.now c.args.cutter.now)

pub returns-in_ok-answer_cut-in_default-clause-fits : goal.returns-in_ok-answer_cut-in_default-clause-fits
returns-in_ok-answer_cut-in_default-clause-fits g c =
    omega (arith, ap (λ (x : Counted). x.count) c.clear.ensures ∙ count-counted [])

pub returns-in_ok-answer_cut-in_default-clause-begun : goal.returns-in_ok-answer_cut-in_default-clause-begun
returns-in_ok-answer_cut-in_default-clause-begun g c = λ begun has.
    let took = c.take_piece-count.ensures in
    let end = ended_by c.args.cutter.now begun c.args.piece.now c.take_piece-count.result.0 c.take_piece-count.result.1 c.take_piece-count.new.self has took.taken took.cut took.counted c.in_default.not-More in
    c.clear.ensures ∙ ap counted (sym end.none_begun)

pub returns-in_ok-answer_cut-in_default-clause-replies : goal.returns-in_ok-answer_cut-in_default-clause-replies
returns-in_ok-answer_cut-in_default-clause-replies g c = λ begun has.
    let took = c.take_piece-count.ensures in
    let end = ended_by c.args.cutter.now begun c.args.piece.now c.take_piece-count.result.0 c.take_piece-count.result.1 c.take_piece-count.new.self has took.taken took.cut took.counted c.in_default.not-More in
    rw end.one_whole (c.in_ok-answer_cut-in_default.ensures.reply end.line end.counts)

pub returns-in-More-clause-spot : goal.returns-in-More-clause-spot
returns-in-More-clause-spot g c = c.requires.spot

pub returns-in-More-clause-room : goal.returns-in-More-clause-room
returns-in-More-clause-room g c = c.requires.room

pub returns-in-More-clause-log : goal.returns-in-More-clause-log
returns-in-More-clause-log g c = grows_same _

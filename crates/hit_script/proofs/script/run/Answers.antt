use Rattle.std.proofs.Common.{◌≡◌, Some, refl, sym, ◌∙◌, arith}
use Rattle.std.proofs.lemmas.Option.{none-some}
use Rattle.hit_script.specs.declared.outcome.Status.TheVariants as status
use Rattle.hit_script.specs.declared.words.Task.TheVariants as task
use Rattle.hit_script.proofs.Endings.{first_told, ends_at_most, ends_complete, ends_full}
use Rattle.hit_script.proofs.Logs.{grows_same}
use Rattle.hit_script.proofs.WordLaws.{load_not_none, most_blocks, same_count, script_not_load, unasked_words}
use Rattle.hit_script.proofs.LoadEndings.{load_not_read_fault, load_not_too_much, load_not_usage, load_write_fault}
use Rattle.hit_script.proofs.script.run.Goals as goal

-- Words of no form: nothing is done.

pub returns-in-None-clause-headline : goal.returns-in-None-clause-headline
returns-in-None-clause-headline g c e none script told page =
    absurd (cc)

pub returns-in-None-clause-to_the_end : goal.returns-in-None-clause-to_the_end
returns-in-None-clause-to_the_end g c e none script told =
    absurd (cc)

pub returns-in-None-clause-most : goal.returns-in-None-clause-most
returns-in-None-clause-most g c script told =
    (0, omega arith, omega arith, told)

pub returns-in-None-clause-front : goal.returns-in-None-clause-front
returns-in-None-clause-front g c none script told page =
    absurd (unasked_words _ c.args.words.now (sym c.task_of.ensures.asked ∙ c.in-None.is) none)

pub returns-in-None-clause-whole : goal.returns-in-None-clause-whole
returns-in-None-clause-whole g c e read rest told now page =
    absurd (cc)

pub returns-in-None-clause-page : goal.returns-in-None-clause-page
returns-in-None-clause-page g c e none script told page =
    absurd (cc)

pub returns-in-None-clause-page_at_fault : goal.returns-in-None-clause-page_at_fault
returns-in-None-clause-page_at_fault g c e read rest told now page =
    absurd (cc)

pub returns-in-None-clause-log_grows : goal.returns-in-None-clause-log_grows
returns-in-None-clause-log_grows g c =
    grows_same _

pub returns-in-None-clause-scripted : goal.returns-in-None-clause-scripted
returns-in-None-clause-scripted g c e none script before entries told told_log now_log =
    absurd (cc)

pub returns-in-None-clause-load : goal.returns-in-None-clause-load
returns-in-None-clause-load g c e count asked page =
    absurd (cc)

pub returns-in-None-clause-load_front : goal.returns-in-None-clause-load_front
returns-in-None-clause-load_front g c count asked page =
    absurd (none-some _ (sym c.in-None.is ∙ c.task_of.ensures.asked ∙ asked))

pub returns-in-None-clause-load_source : goal.returns-in-None-clause-load_source
returns-in-None-clause-load_source g c count asked =
    absurd (none-some _ (sym c.in-None.is ∙ c.task_of.ensures.asked ∙ asked))

pub returns-in-None-clause-load_page : goal.returns-in-None-clause-load_page
returns-in-None-clause-load_page g c e count asked page =
    absurd (cc)

pub returns-in-None-clause-load_counted : goal.returns-in-None-clause-load_counted
returns-in-None-clause-load_counted g c e count asked before entries told_log now_log =
    absurd (cc)

pub returns-in-None-clause-load_cause : goal.returns-in-None-clause-load_cause
returns-in-None-clause-load_cause g c count asked =
    absurd (none-some _ (sym c.in-None.is ∙ c.task_of.ensures.asked ∙ asked))

pub returns-in-None-clause-usage : goal.returns-in-None-clause-usage
returns-in-None-clause-usage g c =
    (λ e. sym c.task_of.ensures.asked ∙ c.in-None.is, λ none. refl)

pub returns-in-None-clause-untouched : goal.returns-in-None-clause-untouched
returns-in-None-clause-untouched g c e =
    (refl, refl, refl, refl)

pub returns-in-None-clause-read_fault : goal.returns-in-None-clause-read_fault
returns-in-None-clause-read_fault g c e =
    absurd (cc)

pub returns-in-None-clause-write_fault : goal.returns-in-None-clause-write_fault
returns-in-None-clause-write_fault g c e =
    absurd (cc)

pub returns-in-None-clause-too_much : goal.returns-in-None-clause-too_much
returns-in-None-clause-too_much g c e script told =
    absurd (cc)

pub returns-in-None-clause-too_much_always : goal.returns-in-None-clause-too_much_always
returns-in-None-clause-too_much_always g c none script told long full =
    absurd (unasked_words _ c.args.words.now (sym c.task_of.ensures.asked ∙ c.in-None.is) none)

pub returns-in-None-clause-complete : goal.returns-in-None-clause-complete
returns-in-None-clause-complete g c none calm_source calm_sink script told short =
    absurd (unasked_words _ c.args.words.now (sym c.task_of.ensures.asked ∙ c.in-None.is) none)

-- Without words the script is played from the first page. Each answer says of the status of the play only what its clause
-- asks, so that a body which answers another status is refused for the clauses that are false of it.

pub returns-in-Some-Script-clause-headline : goal.returns-in-Some-Script-clause-headline
returns-in-Some-Script-clause-headline g c e none script told page =
    let is : c.play.result ≡ status.Done = cc in
    c.play.ensures.replied is script _ told (first_told _ c.requires page)

pub returns-in-Some-Script-clause-to_the_end : goal.returns-in-Some-Script-clause-to_the_end
returns-in-Some-Script-clause-to_the_end g c e none script told =
    let is : c.play.result ≡ status.Done = cc in
    c.play.ensures.to_the_end is script told

pub returns-in-Some-Script-clause-most : goal.returns-in-Some-Script-clause-most
returns-in-Some-Script-clause-most g c script told =
    ends_at_most c.play.result c.play.ensures script told

pub returns-in-Some-Script-clause-front : goal.returns-in-Some-Script-clause-front
returns-in-Some-Script-clause-front g c none script told page =
    c.play.ensures.front script _ told (first_told _ c.requires page)

pub returns-in-Some-Script-clause-whole : goal.returns-in-Some-Script-clause-whole
returns-in-Some-Script-clause-whole g c e read rest told now page =
    let is : c.play.result ≡ status.ReadFault = cc in
    c.play.ensures.whole is read rest _ told now (first_told _ c.requires page)

pub returns-in-Some-Script-clause-page : goal.returns-in-Some-Script-clause-page
returns-in-Some-Script-clause-page g c e none script told page =
    let is : c.play.result ≡ status.Done = cc in
    c.play.ensures.page_at_end is script _ told (first_told _ c.requires page)

pub returns-in-Some-Script-clause-page_at_fault : goal.returns-in-Some-Script-clause-page_at_fault
returns-in-Some-Script-clause-page_at_fault g c e read rest told now page =
    let is : c.play.result ≡ status.ReadFault = cc in
    c.play.ensures.page_at_fault is read rest _ told now (first_told _ c.requires page)

pub returns-in-Some-Script-clause-log_grows : goal.returns-in-Some-Script-clause-log_grows
returns-in-Some-Script-clause-log_grows g c =
    c.play.ensures.log_grows

pub returns-in-Some-Script-clause-scripted : goal.returns-in-Some-Script-clause-scripted
returns-in-Some-Script-clause-scripted g c e none script before entries told told_log now_log =
    let is : c.play.result ≡ status.Done = cc in
    c.play.ensures.scripted is script before entries told told_log now_log

pub returns-in-Some-Script-clause-load : goal.returns-in-Some-Script-clause-load
returns-in-Some-Script-clause-load g c e count asked page =
    let is_script : c.task_of.result ≡ Some task.Script = cc in
    absurd (script_not_load (sym is_script ∙ c.task_of.ensures.asked ∙ asked))

pub returns-in-Some-Script-clause-load_front : goal.returns-in-Some-Script-clause-load_front
returns-in-Some-Script-clause-load_front g c count asked page =
    let is_script : c.task_of.result ≡ Some task.Script = cc in
    absurd (script_not_load (sym is_script ∙ c.task_of.ensures.asked ∙ asked))

pub returns-in-Some-Script-clause-load_source : goal.returns-in-Some-Script-clause-load_source
returns-in-Some-Script-clause-load_source g c count asked =
    let is_script : c.task_of.result ≡ Some task.Script = cc in
    absurd (script_not_load (sym is_script ∙ c.task_of.ensures.asked ∙ asked))

pub returns-in-Some-Script-clause-load_page : goal.returns-in-Some-Script-clause-load_page
returns-in-Some-Script-clause-load_page g c e count asked page =
    let is_script : c.task_of.result ≡ Some task.Script = cc in
    absurd (script_not_load (sym is_script ∙ c.task_of.ensures.asked ∙ asked))

pub returns-in-Some-Script-clause-load_counted : goal.returns-in-Some-Script-clause-load_counted
returns-in-Some-Script-clause-load_counted g c e count asked before entries told_log now_log =
    let is_script : c.task_of.result ≡ Some task.Script = cc in
    absurd (script_not_load (sym is_script ∙ c.task_of.ensures.asked ∙ asked))

pub returns-in-Some-Script-clause-load_cause : goal.returns-in-Some-Script-clause-load_cause
returns-in-Some-Script-clause-load_cause g c count asked =
    let is_script : c.task_of.result ≡ Some task.Script = cc in
    absurd (script_not_load (sym is_script ∙ c.task_of.ensures.asked ∙ asked))

pub returns-in-Some-Script-clause-usage : goal.returns-in-Some-Script-clause-usage
returns-in-Some-Script-clause-usage g c =
    let is_script : c.task_of.result ≡ Some task.Script = cc in
    (λ e. let is : c.play.result ≡ status.Usage = cc in absurd (c.play.ensures.usage is), λ none. absurd (none-some _ (sym none ∙ (sym c.task_of.ensures.asked ∙ is_script))))

pub returns-in-Some-Script-clause-untouched : goal.returns-in-Some-Script-clause-untouched
returns-in-Some-Script-clause-untouched g c e =
    let is : c.play.result ≡ status.Usage = cc in
    absurd (c.play.ensures.usage is)

pub returns-in-Some-Script-clause-read_fault : goal.returns-in-Some-Script-clause-read_fault
returns-in-Some-Script-clause-read_fault g c e =
    let is : c.play.result ≡ status.ReadFault = cc in
    c.play.ensures.read_fault is

pub returns-in-Some-Script-clause-write_fault : goal.returns-in-Some-Script-clause-write_fault
returns-in-Some-Script-clause-write_fault g c e =
    let is : c.play.result ≡ status.WriteFault = cc in
    c.play.ensures.write_fault is

pub returns-in-Some-Script-clause-too_much : goal.returns-in-Some-Script-clause-too_much
returns-in-Some-Script-clause-too_much g c e script told =
    let is : c.play.result ≡ status.TooMuch = cc in
    c.play.ensures.too_much is script told

pub returns-in-Some-Script-clause-too_much_always : goal.returns-in-Some-Script-clause-too_much_always
returns-in-Some-Script-clause-too_much_always g c none script told long full =
    let is : c.play.result ≡ status.TooMuch = ends_full c.play.result c.play.ensures script told long full in
    cc

pub returns-in-Some-Script-clause-complete : goal.returns-in-Some-Script-clause-complete
returns-in-Some-Script-clause-complete g c none calm_source calm_sink script told short =
    ends_complete c.play.result c.play.ensures calm_source calm_sink script told short

-- With the words of a load it is done from the first page.

pub returns-in-Some-Load-clause-headline : goal.returns-in-Some-Load-clause-headline
returns-in-Some-Load-clause-headline g c e none script told page =
    let is_load : c.task_of.result ≡ Some (task.Load c.in-Some-Load.count) = cc in
    absurd (load_not_none _ c.args.words.now (sym c.task_of.ensures.asked ∙ is_load) none)

pub returns-in-Some-Load-clause-to_the_end : goal.returns-in-Some-Load-clause-to_the_end
returns-in-Some-Load-clause-to_the_end g c e none script told =
    let is_load : c.task_of.result ≡ Some (task.Load c.in-Some-Load.count) = cc in
    absurd (load_not_none _ c.args.words.now (sym c.task_of.ensures.asked ∙ is_load) none)

pub returns-in-Some-Load-clause-most : goal.returns-in-Some-Load-clause-most
returns-in-Some-Load-clause-most g c script told =
    (0, omega arith, omega arith, told)

pub returns-in-Some-Load-clause-front : goal.returns-in-Some-Load-clause-front
returns-in-Some-Load-clause-front g c none script told page =
    let is_load : c.task_of.result ≡ Some (task.Load c.in-Some-Load.count) = cc in
    absurd (load_not_none _ c.args.words.now (sym c.task_of.ensures.asked ∙ is_load) none)

pub returns-in-Some-Load-clause-whole : goal.returns-in-Some-Load-clause-whole
returns-in-Some-Load-clause-whole g c e read rest told now page =
    absurd (load_not_read_fault c.play_load.result c.play_load.ensures.cause (cc))

pub returns-in-Some-Load-clause-page : goal.returns-in-Some-Load-clause-page
returns-in-Some-Load-clause-page g c e none script told page =
    let is_load : c.task_of.result ≡ Some (task.Load c.in-Some-Load.count) = cc in
    absurd (load_not_none _ c.args.words.now (sym c.task_of.ensures.asked ∙ is_load) none)

pub returns-in-Some-Load-clause-page_at_fault : goal.returns-in-Some-Load-clause-page_at_fault
returns-in-Some-Load-clause-page_at_fault g c e read rest told now page =
    absurd (load_not_read_fault c.play_load.result c.play_load.ensures.cause (cc))

pub returns-in-Some-Load-clause-log_grows : goal.returns-in-Some-Load-clause-log_grows
returns-in-Some-Load-clause-log_grows g c =
    c.play_load.ensures.log_grows

pub returns-in-Some-Load-clause-scripted : goal.returns-in-Some-Load-clause-scripted
returns-in-Some-Load-clause-scripted g c e none script before entries told told_log now_log =
    let is_load : c.task_of.result ≡ Some (task.Load c.in-Some-Load.count) = cc in
    absurd (load_not_none _ c.args.words.now (sym c.task_of.ensures.asked ∙ is_load) none)

pub returns-in-Some-Load-clause-load : goal.returns-in-Some-Load-clause-load
returns-in-Some-Load-clause-load g c e count asked page =
    let is_load : c.task_of.result ≡ Some (task.Load c.in-Some-Load.count) = cc in
    let is = same_count (sym is_load ∙ c.task_of.ensures.asked ∙ asked) in
    let done : c.play_load.result ≡ status.Done = cc in
    rw is at (c.play_load.ensures.summed done _ (first_told _ c.requires page))

pub returns-in-Some-Load-clause-load_front : goal.returns-in-Some-Load-clause-load_front
returns-in-Some-Load-clause-load_front g c count asked page =
    let is_load : c.task_of.result ≡ Some (task.Load c.in-Some-Load.count) = cc in
    let is = same_count (sym is_load ∙ c.task_of.ensures.asked ∙ asked) in
    rw is at (c.play_load.ensures.front _ (first_told _ c.requires page))

pub returns-in-Some-Load-clause-load_source : goal.returns-in-Some-Load-clause-load_source
returns-in-Some-Load-clause-load_source g c count asked =
    refl

pub returns-in-Some-Load-clause-load_page : goal.returns-in-Some-Load-clause-load_page
returns-in-Some-Load-clause-load_page g c e count asked page =
    let is_load : c.task_of.result ≡ Some (task.Load c.in-Some-Load.count) = cc in
    let is = same_count (sym is_load ∙ c.task_of.ensures.asked ∙ asked) in
    let done : c.play_load.result ≡ status.Done = cc in
    rw is at (c.play_load.ensures.page_at_end done _ (first_told _ c.requires page))

pub returns-in-Some-Load-clause-load_counted : goal.returns-in-Some-Load-clause-load_counted
returns-in-Some-Load-clause-load_counted g c e count asked before entries told_log now_log =
    let is_load : c.task_of.result ≡ Some (task.Load c.in-Some-Load.count) = cc in
    let is = same_count (sym is_load ∙ c.task_of.ensures.asked ∙ asked) in
    let done : c.play_load.result ≡ status.Done = cc in
    rw is at (c.play_load.ensures.counted done before entries told_log now_log)

pub returns-in-Some-Load-clause-load_cause : goal.returns-in-Some-Load-clause-load_cause
returns-in-Some-Load-clause-load_cause g c count asked =
    c.play_load.ensures.cause

pub returns-in-Some-Load-clause-usage : goal.returns-in-Some-Load-clause-usage
returns-in-Some-Load-clause-usage g c =
    let is_load : c.task_of.result ≡ Some (task.Load c.in-Some-Load.count) = cc in
    (λ e. absurd (load_not_usage c.play_load.result c.play_load.ensures.cause (cc)), λ none. absurd (none-some _ (sym none ∙ (sym c.task_of.ensures.asked ∙ is_load))))

pub returns-in-Some-Load-clause-untouched : goal.returns-in-Some-Load-clause-untouched
returns-in-Some-Load-clause-untouched g c e =
    absurd (load_not_usage c.play_load.result c.play_load.ensures.cause (cc))

pub returns-in-Some-Load-clause-read_fault : goal.returns-in-Some-Load-clause-read_fault
returns-in-Some-Load-clause-read_fault g c e =
    absurd (load_not_read_fault c.play_load.result c.play_load.ensures.cause (cc))

pub returns-in-Some-Load-clause-write_fault : goal.returns-in-Some-Load-clause-write_fault
returns-in-Some-Load-clause-write_fault g c e =
    load_write_fault c.play_load.result c.play_load.ensures.cause (cc)

pub returns-in-Some-Load-clause-too_much : goal.returns-in-Some-Load-clause-too_much
returns-in-Some-Load-clause-too_much g c e script told =
    absurd (load_not_too_much c.play_load.result c.play_load.ensures.cause (cc))

pub returns-in-Some-Load-clause-too_much_always : goal.returns-in-Some-Load-clause-too_much_always
returns-in-Some-Load-clause-too_much_always g c none script told long full =
    let is_load : c.task_of.result ≡ Some (task.Load c.in-Some-Load.count) = cc in
    absurd (load_not_none _ c.args.words.now (sym c.task_of.ensures.asked ∙ is_load) none)

pub returns-in-Some-Load-clause-complete : goal.returns-in-Some-Load-clause-complete
returns-in-Some-Load-clause-complete g c none calm_source calm_sink script told short =
    let is_load : c.task_of.result ≡ Some (task.Load c.in-Some-Load.count) = cc in
    absurd (load_not_none _ c.args.words.now (sym c.task_of.ensures.asked ∙ is_load) none)

pub play_load-requires : goal.play_load-requires
play_load-requires g c =
    let is_load : c.task_of.result ≡ Some (task.Load c.in-Some-Load.count) = cc in
    most_blocks c.task_of.result c.task_of.ensures.within is_load

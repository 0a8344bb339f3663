use Rattle.std.proofs.Common.{refl, sym, ◌∙◌}
use Rattle.ntfs_runs.proofs.ReadingLemmas.{front-fits, step-closing, step-wrong, step-pair}
use Rattle.ntfs_runs.proofs.walk.Pairs.step.Goals as goal

pub split_at-requires : goal.split_at-requires
split_at-requires c = (front-fits c.self.inside.last c.self.inside.room c.self.inside.rest.now c.in-Pair.run' c.in-Pair.size (sym c.front_at.ensures ∙ c.in-Pair.is)).0

pub overflow_sub-self : goal.overflow_sub-self
overflow_sub-self c = (front-fits c.self.inside.last c.self.inside.room c.self.inside.rest.now c.in-Pair.run' c.in-Pair.size (sym c.front_at.ensures ∙ c.in-Pair.is)).1

pub returns-in-Closing : goal.returns-in-Closing
returns-in-Closing c =
    let s = c.self.inside in
    let ended = step-closing s.last s.room s.place s.rest.now (sym c.front_at.ensures ∙ c.in-Closing.is) in
    (rw (← c.self.view_is, c.if-self.false) ended, refl)

pub returns-in-Wrong : goal.returns-in-Wrong
returns-in-Wrong c =
    let s = c.self.inside in
    let ended = step-wrong s.last s.room s.place s.rest.now (sym c.front_at.ensures ∙ c.in-Wrong.is) in
    rw (← c.self.view_is, c.if-self.false) ended

pub returns-in-Pair : goal.returns-in-Pair
returns-in-Pair c =
    let s = c.self.inside in
    let goes_on = step-pair s.last s.room s.place s.rest.now c.in-Pair.run' c.in-Pair.size (sym c.front_at.ensures ∙ c.in-Pair.is) in
    rw (← c.self.view_is, c.if-self.false, c.unwrap_or-self-inside.ensures, c.split_at.ensures.back) goes_on

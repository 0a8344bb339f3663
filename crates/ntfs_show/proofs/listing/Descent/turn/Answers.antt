use Rattle.std.proofs.Common.{IsTrue, ap, refl}
use Rattle.std.proofs.lemmas.Result.{err_from_is_err_and}
use Rattle.ntfs_show.specs.Descent.{IsDescent, above_descent, around_present, below_descent, left_of_descent, more_of_descent}
use Rattle.ntfs_show.specs.Listing.{record_numbers}
use Rattle.ntfs_show.specs.ListState.{Around}
use Rattle.ntfs_print.specs.Printing.{before}
use Rattle.ntfs_show.specs.declared.listing.Descent.{Descent}
use Rattle.ntfs_show.proofs.DescentLemmas.{descent-turned, descent-up}
use Rattle.ntfs_show.proofs.ListLemmas.{goes-at, stops-at, stops-here, stops-then}
use Rattle.ntfs_show.proofs.listing.Descent.turn.Goals as goal

pub returns-in_err-below-clause-lists : goal.returns-in_err-below-clause-lists
returns-in_err-below-clause-lists g c =
    let seen = g.G.Image.seen c.args.image.now in
    let p = err_from_is_err_and c.from_residual.result c.from_residual.ensures.1 in
    let stops = rw c.deref.ensures.value at c.in_err-below.ensures.lists in
    rw (p.1, p.2)
    (stops-at (IsTrue seen.is_told) (λ (all : Unit {0}). around_present c.args.desk.now.options c.args.table.now
    seen.content record_numbers c.args.self.now) _ _ _ _ _ _ stops (λ told all. refl))

pub returns-in_err-enter-in-Some-clause-lists : goal.returns-in_err-enter-in-Some-clause-lists
returns-in_err-enter-in-Some-clause-lists g c =
    let seen = g.G.Image.seen c.args.image.now in
    let old = c.args.self.now in
    let o = c.args.desk.now.options in
    let v = c.args.table.now in
    let mid : Descent =
    record old {
      present = record {
        directory = c.show_entries.new.directory;
        number = old.present.number;
        name =
            old.present.name;
      };
    } in
    let shown = c.in_ok-below.ensures in
    let goes = rw (c.deref.ensures.value, c.in-Some.is) at shown.lists in
    let entered = rw shown.copies.seen at c.in_err-enter-in-Some.ensures.told in
    let p =
    err_from_is_err_and c.from_residual-in_err-enter-in-Some.result c.from_residual-in_err-enter-in-Some.ensures.1 in
    rw (p.1, p.2)
    (stops-then {I = Unit {0}} (IsTrue seen.is_told)
    (λ all. before c.args.desk.now.pending (left_of_descent o v seen.content record_numbers old))
    (λ all. before c.show_entries.new.desk.pending (below_descent o v seen.content record_numbers mid
    c.in-Some.number)) _ _ _ _ _
    (goes-at (IsTrue seen.is_told) (λ (all : Unit {0}). around_present o v seen.content record_numbers old) _ _ _ _ _ _
    goes (λ told all. refl) (λ told all. refl))
    (stops-here {I = Unit {0}} (IsTrue seen.is_told)
    (λ all. below_descent o v seen.content record_numbers mid c.in-Some.number) _ _ _
    (λ told settled all. entered o told settled)))

pub returns-in-None-clause-lists : goal.returns-in-None-clause-lists
returns-in-None-clause-lists g c =
    let seen = g.G.Image.seen c.args.image.now in
    let old = c.args.self.now in
    let o = c.args.desk.now.options in
    let v = c.args.table.now in
    let mid : Descent =
    record old {
      present = record {
        directory = c.show_entries.new.directory;
        number = old.present.number;
        name =
            old.present.name;
      };
    } in
    let goes = rw (c.deref.ensures.value, c.in-None.is) at c.in_ok-below.ensures.lists in
    goes-at (IsTrue seen.is_told) (λ (all : Unit {0}). around_present o v seen.content record_numbers old) _ _ _ _ _ _
    goes (λ told all. refl)
    (λ told all. ap (before c.show_entries.new.desk.pending) (descent-turned o v seen.content record_numbers mid
    c.leave.new.self c.leave.result c.requires.descent.path c.leave.ensures.up c.leave.ensures.start))

pub returns-in-None-clause-descent : goal.returns-in-None-clause-descent
returns-in-None-clause-descent g c more =
    let old = c.args.self.now in
    let is = c.requires.descent in
    let mid : Descent =
    record old {
      present = record {
        directory = c.show_entries.new.directory;
        number = old.present.number;
        name =
            old.present.name;
      };
    } in
    let walked : IsDescent c.args.table.now record_numbers mid =
    record { present = c.in_ok-below.ensures.walked; above = is.above; path = is.path; levels_left = is.levels_left } in
    descent-up c.args.table.now record_numbers mid c.leave.new.self walked (c.leave.ensures.up more)

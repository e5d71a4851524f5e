use Rattle.std.proofs.Common.{◌≡◌, true, false, map}
use Rattle.std.specs.List.{list_any}
use Rattle.ess_semantics.specs.Lists.{is_empty, append_all}
use Rattle.ess_core.specs.ValueViews.{pure_val}
use Rattle.ess_values.specs.Neighbours.{neighbours_differ}
use Rattle.ess_values.specs.Parts.{set_members}
use Rattle.ess_values.proofs.Parts.{empty_there, overlap_there, partition_there}
use Rattle.ess_values.proofs.partitions.partition_of.Goals as goal

pub returns-then-has_empty-clause-empty : goal.returns-then-has_empty-clause-empty
returns-then-has_empty-clause-empty c =
    let told = c.has_empty.ensures in let whole = c.as_slice.ensures in let yes = c.if-has_empty.true in
    let some : list_any (λ p. is_empty (set_members p)) (map pure_val c.args.parts) ≡ true = cc in
    λ e. empty_there (map pure_val c.args.parts) true c.requires.sets some

pub returns-then-not-neighbours_apart-clause-overlap : goal.returns-then-not-neighbours_apart-clause-overlap
returns-then-not-neighbours_apart-clause-overlap c =
    let told = c.has_empty.ensures in let whole = c.as_slice.ensures in let again = c.as_slice-2.ensures in let no = c.if-has_empty.false in
    let none : list_any (λ p. is_empty (set_members p)) (map pure_val c.args.parts) ≡ false = cc in
    let all = c.in_ok-all_members.ensures in
    let ms : map pure_val c.in_ok-all_members.field-0 ≡ append_all (map set_members (map pure_val c.args.parts)) = cc in
    let seen = c.as_slice-3.ensures in let apart = c.neighbours_apart.ensures in let yes = c.if-not-neighbours_apart.true in
    let near : neighbours_differ (map pure_val c.in_ok-members.members) ≡ false = cc in
    λ e. (empty_there (map pure_val c.args.parts) false c.requires.sets none, overlap_there (map pure_val c.args.parts) c.in_ok-all_members.field-0 c.in_ok-members.members false c.requires.sets ms c.in_ok-members.ensures near)

pub returns-clause-ok : goal.returns-clause-ok
returns-clause-ok c =
    let told = c.has_empty.ensures in let whole = c.as_slice.ensures in let again = c.as_slice-2.ensures in let no = c.if-has_empty.false in
    let none : list_any (λ p. is_empty (set_members p)) (map pure_val c.args.parts) ≡ false = cc in
    let all = c.in_ok-all_members.ensures in
    let ms : map pure_val c.in_ok-all_members.field-0 ≡ append_all (map set_members (map pure_val c.args.parts)) = cc in
    let seen = c.as_slice-3.ensures in let apart = c.neighbours_apart.ensures in let yes = c.if-not-neighbours_apart.false in
    let near : neighbours_differ (map pure_val c.in_ok-members.members) ≡ true = cc in
    partition_there (map pure_val c.args.parts) c.in_ok-sorted_once.field-0 (empty_there (map pure_val c.args.parts) false c.requires.sets none)
    (overlap_there (map pure_val c.args.parts) c.in_ok-all_members.field-0 c.in_ok-members.members true c.requires.sets ms c.in_ok-members.ensures near)
    c.in_ok-sorted_once.ensures

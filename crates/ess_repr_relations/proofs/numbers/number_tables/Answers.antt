use Rattle.std.proofs.Common.{ap, ◌∙◌, [], ◌∷◌, ◌++◌, map, length, pos, rules, w64}
use Rattle.std.proofs.lemmas.Int.{to_z-of_z}
use Rattle.ess_semantics.specs.Values.{items_of}
use Rattle.ess_semantics.specs.Tables.{code, one_cell}
use Rattle.ess_core.specs.ValueViews.{pure_val}
use Rattle.ess_eval_domains.specs.ClosedViews.{pure_closed}
use Rattle.ess_repr_relations.specs.PartNumbers.{list_number}
use Rattle.ess_repr_relations.proofs.PartLists.{tables_of_numbers}
use Rattle.ess_repr_relations.proofs.numbers.number_tables.Goals as goal

pub returns : goal.returns
returns c =
    tables_of_numbers (pure_closed c.args.member.now) (pure_val c.args.val.now) (map pure_val c.in_ok-members.members)
    (map pure_val c.in_ok-parts.parts)
    (map (map pure_val) c.in_ok-lists.lists) c.in_ok-numbers.numbers c.in_ok-codes.field-0 c.in_ok-count_of.field-0
    c.in_ok-one_cell.field-0 c.in_ok-one_row.field-0
    c.push.new.self c.push-2.new.self c.in_ok-members.ensures c.in_ok-parts.ensures
    (c.in_ok-lists.ensures ∙ ap (λ l. map items_of (map pure_val l)) c.as_slice.ensures)
    (c.in_ok-numbers.ensures
    ∙ ap (λ l. map (list_number 1 (map (map pure_val) l)) (map pure_val c.as_slice-2.result.now)) c.as_slice-3.ensures
    ∙ ap (λ l. map (list_number 1 (map (map pure_val) c.in_ok-lists.lists)) (map pure_val l)) c.as_slice-2.ensures)
    (c.in_ok-count_of.ensures ∙ ap (λ l. pos (length (map pure_val l))) c.as_slice-4.ensures)
    (c.in_ok-codes.ensures ∙ ap (λ l. map code (map pure_val l)) c.as_slice-5.ensures)
    (c.in_ok-one_cell.ensures ∙ ap one_cell (to_z-of_z w64 c.in_ok-count_of.field-0 (search rules))) c.in_ok-one_row.ensures
    (c.in_ok-push.ensures.ok ∙ ap (λ l. l ++ c.in_ok-one_cell.field-0 ∷ []) c.in_ok-tables.ensures)
    c.in_ok-push-2.ensures.ok

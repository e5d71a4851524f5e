use Rattle.std.proofs.Common.{◌∙◌, sym, ap, [], map}
use Rattle.std.specs.List.{list_any}
use Rattle.ess_semantics.specs.ModelMeaning.{is_nothing}
use Rattle.eprime_eval_kinds.specs.KindedViews.{pure_kex, pure_kind}
use Rattle.eprime_eval_kinds.specs.KindedLists.{index_of}
use Rattle.eprime_eval_kinds.proofs.ItemLists.{items_empty, items_stand}
use Rattle.eprime_eval_kinds.proofs.lists.items.Goals as goal

pub returns-then-some_nothing : goal.returns-then-some_nothing
returns-then-some_nothing c = λ names.
    items_empty names c.args.row (sym c.if-some_nothing.true ∙ c.some_nothing.ensures
    ∙ ap (list_any (λ e. is_nothing (pure_kex [] e))) c.as_slice.ensures)

pub returns-in_ok-new-in-Some : goal.returns-in_ok-new-in-Some
returns-in_ok-new-in-Some c = λ names.
    items_stand names c.args.row c.in_ok-new-in-Some.field-0 c.index_kind.result c.in-Some.item
    (sym c.if-some_nothing.false ∙ c.some_nothing.ensures ∙ ap (list_any (λ e. is_nothing (pure_kex [] e))) c.as_slice.ensures)
    c.in-Some.ensures (c.index_kind.ensures ∙ ap (λ ks. index_of (map pure_kind ks)) c.as_slice-in-Some.ensures) c.in_ok-new-in-Some.ensures

-- The header of a model keeps names and plans, so a right model declares the tables of its header.
use Rattle.std.proofs.Common.{◌≡◌, sym, ap, ◌∙◌, List, [], ◌∷◌, map, filter, None, codes}
use Rattle.ess_semantics.specs.Lists.{append_all}
use Rattle.ess_semantics.specs.Values.{Text}
use Rattle.ess_semantics.specs.Trees.{Stm}
use Rattle.ess_semantics.specs.Prepared.{prepared}
use Rattle.ess_semantics.specs.Judgements.{fault}
use Rattle.ess_semantics.specs.Parameters.{all_declared}
use Rattle.ess_semantics.specs.Plans.{Side, givens_side, finds_side, same_side, side_of, Options, domain_of_stm, kept_names, all_chosen, names_of_plans, plans_from, plans, table_list}
use Rattle.ess_semantics.specs.ModelTrees.{Header, in_header, header_of}
use Rattle.ess_translate_tables_laws.specs.Laws.{HeadersKeepNames, RightModelsDeclareTheirTables}
use Rattle.ess_translate_tables_laws.proofs.HeaderStatements.{prepared-header, domains-header, declares-header, plans-header}
use Rattle.ess_translate_tables_laws.proofs.DistinctNames.{distinct-names}
use Rattle.ess_translate_tables_laws.proofs.ChosenAgain.{all-alike, plans-alike}

-- The names that are taken before any table has one.
abbrev taken : List Text
taken = codes "alldifferent_except" ∷ []

same-plans : (S : List Stm) (o : Options) → fault S ≡ None → plans (filter in_header S) (all_chosen S o) ≡ plans S o
same-plans S o h =
    let A : Options = all_chosen S o in
    ap (λ P. plans_from P A (all_declared (filter in_header S)) taken) (prepared-header S)
    ∙ plans-header (prepared S) A (all_declared (filter in_header S)) taken
    ∙ ap (λ D. plans_from (prepared S) A D taken) (declares-header S)
    ∙ plans-alike (prepared S) A o (all_declared S) taken (all-alike o (kept_names S) (distinct-names S h))

-- Names and plans are kept.
pub headers-keep : HeadersKeepNames
headers-keep = record {
  names = λ S o. ap (λ P. append_all (map domain_of_stm P)) (prepared-header S) ∙ domains-header (prepared S);
  plans = same-plans;
}

same-tables : (f : Side) (S : List Stm) (o : Options) (H : Header) → fault S ≡ None → H ≡ header_of S o →
    table_list f S o ≡ table_list f H.statements H.reprs
same-tables f S o H h e =
    ap (λ ps. names_of_plans (filter (λ p. same_side (side_of p) f) ps)) (sym (ap (λ K. plans K.statements K.reprs) e ∙ same-plans S o h))

-- A right model declares the tables of its header.
pub right-models : RightModelsDeclareTheirTables
right-models S o H E h m = record {
  givens = m.given_names ∙ same-tables givens_side S o H h m.header;
  finds = m.find_names ∙ same-tables finds_side S o H h m.header;
}

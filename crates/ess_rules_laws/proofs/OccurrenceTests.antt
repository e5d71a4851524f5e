-- Views that are kept as a truth value for each possible member: what their tidy tables stand for, and the test of one member.
use Rattle.std.proofs.Common.{◌≡◌, refl, sym, ap, ◌∙◌, Bool, true, false, List, [], ◌∷◌, ◌++◌, map, filter, drop, length, ℤ, Option, Some, None, option_map}
use Rattle.ess_semantics.specs.declared.words.Op2.{Op2}
use Rattle.ess_semantics.specs.declared.words.ReprKind.{ReprKind}
use Rattle.ess_semantics.specs.Lists.{and_then, is_some_and, list_or_none}
use Rattle.ess_semantics.specs.Values.{Text, Kind, Value, truth, node, of_list, items_of}
use Rattle.ess_semantics.specs.Collections.{holds}
use Rattle.ess_semantics.specs.Names.{look}
use Rattle.ess_semantics.specs.Trees.{binary, Repr, repr, no_reprs, Ex, Exs, seen_ex, ex2, Dom}
use Rattle.ess_semantics.specs.Domains.{Domain, members, member_list, lists_of}
use Rattle.ess_semantics.specs.Membership.{member}
use Rattle.ess_semantics.specs.Operators.{value_of_node, false_where_undefined}
use Rattle.ess_semantics.specs.Tables.{Table, cell_at, same_axes}
use Rattle.ess_semantics.specs.Cells.{Axes, Grid, cells_at}
use Rattle.ess_semantics.specs.Layers.{chosen}
use Rattle.ess_semantics.specs.Representations.{value_of_cells, value_of_tables}
use Rattle.ess_semantics.specs.Declarations.{axes_of}
use Rattle.ess_semantics.specs.Tidy.{tidy, is_orderly, over_axes}
use Rattle.ess_semantics.specs.Meaning.{Env, meaning, meanings, domain_of, indices, tables_in, is_bool_dom, seen_in}
use Rattle.ess_semantics.specs.Meets.{Meets, tidy_in}
use Rattle.ess_semantics.proofs.Tests.{and-left, and-right}
use Rattle.ess_rules_laws.specs.FunctionViews.{append_exs, flag_at}
use Rattle.ess_rules_laws.proofs.Results.{is_flag, flag-value}
use Rattle.ess_rules_laws.proofs.FunctionResults.{chosen-picked}
use Rattle.ess_rules_laws.proofs.FlaggedArguments.{held-passing}
use Rattle.ess_rules_laws.proofs.PlacesOfTables.{listed_in, cell-place, place-member}

no : {A : Type 0} → false ≡ true → A
no h = cc

-- ---- a view of one table

module _ (R : Repr) (dom : Dom) (n : Text) (js : Exs) (env : Env) where
  abbrev View : Ex
  View = seen_ex R dom (n ∷ []) js

  -- The domain, the table and the numbers of a view whose structure is met.
  pub record Parts : Type 0 where
    pub d : Domain
    pub t : Table
    pub i : List ℤ
    pub domain_is : domain_of dom env ≡ Some d
    pub table_is : look env.cells n ≡ Some t
    pub index_is : indices (meanings js env) ≡ Some i
    pub is_tidy : tidy R d (t ∷ []) i ≡ true

  parts-of : (o : Option Domain) (t : Option Table) (k : Option (List ℤ)) → domain_of dom env ≡ o → look env.cells n ≡ t →
      indices (meanings js env) ≡ k → tidy_in R o (and_then t (λ x. option_map (λ xs. x ∷ xs) (Some []))) k ≡ true → Parts
  parts-of None t k a b c h = no h
  parts-of (Some d) None k a b c h = no h
  parts-of (Some d) (Some t) None a b c h = no h
  parts-of (Some d) (Some t) (Some i) a b c h = record {
    d = d;
    t = t;
    i = i;
    domain_is = a;
    table_is = b;
    index_is = c;
    is_tidy = h;
  }

  pub parts : Meets View env → Parts
  parts m = parts-of (domain_of dom env) (look env.cells n) (indices (meanings js env)) refl refl refl m.0

  -- It means what its table stands for.
  pub parts-mean : is_bool_dom dom ≡ false → (p : Parts) → meaning View env ≡ value_of_tables R p.d (p.t ∷ []) p.i
  parts-mean q p = ap (λ b. false_where_undefined b (seen_in R (domain_of dom env) (tables_in env.cells (n ∷ []))
      (indices (meanings js env)))) q
      ∙ ap (λ o. seen_in R o (tables_in env.cells (n ∷ [])) (indices (meanings js env))) p.domain_is
      ∙ ap (λ o. seen_in R (Some p.d) (and_then o (λ x. option_map (λ xs. x ∷ xs) (Some []))) (indices (meanings js env))) p.table_is
      ∙ ap (λ o. seen_in R (Some p.d) (Some (p.t ∷ [])) o) p.index_is

-- ---- the members that occur

module _ (k : ReprKind) (d e : Domain) (kind : Kind) (index : Value → List ℤ) (axes : Axes)
    (built : (g : Grid) → value_of_cells (repr k no_reprs) d (g ∷ []) ≡
    option_map (λ xs. node kind (of_list xs)) (chosen (member_list e) (λ x. g (index x))))
    (axes-are : axes_of (repr k no_reprs) d ≡ axes ∷ []) (t : Table) (i : List ℤ) (h : tidy (repr k no_reprs) d (t ∷ []) i ≡ true)
    (us : List Value) (us-are : members e ≡ Some us) where
  -- Whether a member occurs.
  abbrev pub occurs : Value → Bool
  occurs v = is_flag (cell_at t (i ++ index v))

  -- The value has the members that occur.
  pub occurring : value_of_tables (repr k no_reprs) d (t ∷ []) i ≡ Some (node kind (of_list (filter occurs us)))
  occurring = go (chosen (member_list e) (λ x. cell_at t (i ++ index x))) refl
    where
      go : (o : Option (List Value)) → chosen (member_list e) (λ x. cell_at t (i ++ index x)) ≡ o →
          value_of_tables (repr k no_reprs) d (t ∷ []) i ≡ Some (node kind (of_list (filter occurs us)))
      go None q = no (sym (ap (λ o. is_some_and o (member d)) (built (λ js. cell_at t (i ++ js))
          ∙ ap (option_map (λ xs. node kind (of_list xs))) q))
          ∙ and-left _ (is_orderly (repr k no_reprs) d (cells_at (t ∷ []) i)) (and-right _ _ h))
      go (Some ys) q = built (λ js. cell_at t (i ++ js)) ∙ ap (option_map (λ xs. node kind (of_list xs))) q
          ∙ ap (λ l. Some (node kind (of_list l))) (chosen-picked (λ x. cell_at t (i ++ index x)) us ys
          (ap (λ l. chosen l (λ x. cell_at t (i ++ index x))) (sym (ap list_or_none us-are)) ∙ q))

  over-cells : same_axes (drop (length i) t.axes) axes ≡ true
  over-cells = and-right _ _ (and-left _ _ (ap (λ z. over_axes i z (t ∷ [])) (sym axes-are) ∙ and-left _ _ h))

  module _ (places : lists_of axes ≡ map index us) (w : Value) (told : (v : Value) → holds us v ≡ true → index v ≡ index w → v ≡ w) where
    -- What occurs at its indices is a possible member.
    occurs-held : occurs w ≡ true → holds us w ≡ true
    occurs-held h = go (cell_at t (i ++ index w)) refl h
      where
        go : (p : Option ℤ) → cell_at t (i ++ index w) ≡ p → is_flag p ≡ true → holds us w ≡ true
        go None e h = no h
        go (Some z) e h = let u = place-member index (index w) us
            (ap (listed_in (index w)) (sym places) ∙ cell-place t axes i (index w) z over-cells e) in
            ap (holds us) (sym (told u.0 u.1 u.2)) ∙ u.1

    -- So the cell says whether it is a member.
    pub occurs-holds : holds (filter occurs us) w ≡ occurs w
    occurs-holds = held-passing occurs us w occurs-held

-- The test of a member, from the cell.
pub test-is : (v a : Ex) (env : Env) (w : Value) (kind : Kind) (ys : List Value) (js keys : Exs) (n : Text) (t : Table) (l : List ℤ) →
    meaning a env ≡ Some w → meaning v env ≡ Some (node kind (of_list ys)) → items_of (node kind (of_list ys)) ≡ ys → holds ys w ≡
    is_flag (cell_at t l) → indices (meanings (append_exs js keys) env) ≡ Some l → look env.cells n ≡ Some t →
    meaning (ex2 true Op2.Member a v) env ≡ meaning (flag_at n js keys) env
test-is v a env w kind ys js keys n t l j q e h d b =
    ap (λ o. false_where_undefined true (value_of_node (binary Op2.Member) (o ∷ meaning v env ∷ []))) j
    ∙ ap (λ o. false_where_undefined true (value_of_node (binary Op2.Member) (Some w ∷ o ∷ []))) q
    ∙ ap (λ l. Some (truth (holds l w))) e ∙ ap (λ c. Some (truth c)) h ∙ sym (flag-value js keys env l n t d b)

-- A view of a child behind further indices: what it means, where tables meet it, and the flags that stand there.
use Rattle.std.proofs.Common.{◌≡◌, refl, sym, ap, ◌∙◌, subst, ◌≤◌, Bool, true, false, List, [], ◌∷◌, ◌++◌, map, take, length, ℤ, Option, Some, None, option_map, arith}
use Rattle.ess_semantics.specs.Lists.{all_some, is_some_and}
use Rattle.ess_semantics.specs.Values.{Text, Value, number, truth, item, node}
use Rattle.ess_semantics.specs.Names.{look}
use Rattle.ess_semantics.specs.Trees.{Repr, Exs, no_exs, more_exs, Dom, bool_dom}
use Rattle.ess_semantics.specs.Domains.{Domain, booleans}
use Rattle.ess_semantics.specs.Membership.{member}
use Rattle.ess_semantics.specs.Operators.{as_truth, false_where_undefined}
use Rattle.ess_semantics.specs.Tables.{Table, Tables, code, cell_at}
use Rattle.ess_semantics.specs.Cells.{behind, cells_at}
use Rattle.ess_semantics.specs.Representations.{width, value_of_cells, value_of_tables}
use Rattle.ess_semantics.specs.Declarations.{axes_of}
use Rattle.ess_semantics.specs.Tidy.{is_orderly, tidy_cells, over_axes, tidy}
use Rattle.ess_semantics.specs.Meaning.{Env, meaning, meanings, domain_of, indices, tables_in, is_bool_dom, cell_value, cell_in, seen_in}
use Rattle.ess_semantics.specs.Meets.{Meets, MeetsAll, MeetsDom, tidy_in}
use Rattle.ess_semantics.specs.Substitution.{NamesAreExs, NamesAreDom}
use Rattle.ess_semantics.proofs.Tests.{and-both}
use Rattle.ess_rules_laws.specs.FunctionViews.{append_exs, result_at, flag_at}
use Rattle.ess_rules_laws.proofs.Simulation.{Vals, E, any}
use Rattle.ess_rules_laws.proofs.Agreement.{AgreeOn, domain-agree, meanings-agree}
use Rattle.ess_rules_laws.proofs.MeetsSimulation.{meets-agree, meets-agree-dom}
use Rattle.ess_rules_laws.proofs.TablesOfViews.{cells-append, take-all, cells-long}
use Rattle.ess_rules_laws.proofs.SlotSets.{In, orderly_in}

no : {A : Type 0} → false ≡ true → A
no h = cc

-- ---- index lists behind others

-- What they mean.
pub meanings-append : (js ks : Exs) (env : Env) → meanings (append_exs js ks) env ≡ meanings js env ++ meanings ks env
meanings-append no_exs ks env = refl
meanings-append (more_exs e es) ks env = ap (λ l. meaning e env ∷ l) (meanings-append es ks env)

all-append : (os ps : List (Option Value)) (us vs : List Value) → all_some os ≡ Some us → all_some ps ≡ Some vs →
    all_some (os ++ ps) ≡ Some (us ++ vs)
all-append [] ps us vs p q = q ∙ ap (λ l. Some (l ++ vs)) (let e : [] ≡ us = cc in e)
all-append (None ∷ os) ps us vs p q = cc
all-append (Some w ∷ os) ps us vs p q = go (all_some os) refl p (λ ws j. all-append os ps ws vs j q)
  where
    go : (z : Option (List Value)) → all_some os ≡ z → option_map (λ xs. w ∷ xs) z ≡ Some us →
        ((ws : List Value) → all_some os ≡ Some ws → all_some (os ++ ps) ≡ Some (ws ++ vs)) →
        option_map (λ xs. w ∷ xs) (all_some (os ++ ps)) ≡ Some (us ++ vs)
    go None j p r = cc
    go (Some ws) j p r = ap (option_map (λ xs. w ∷ xs)) (r ws j) ∙ ap (λ l. Some (l ++ vs)) (let e : w ∷ ws ≡ us = cc in e)

map-append : (us vs : List Value) → map code (us ++ vs) ≡ map code us ++ map code vs
map-append [] vs = refl
map-append (u ∷ us) vs = ap (λ l. code u ∷ l) (map-append us vs)

-- The numbers of two index lists, one behind the other.
pub indices-append : (os ps : List (Option Value)) (i j : List ℤ) → indices os ≡ Some i → indices ps ≡ Some j →
    indices (os ++ ps) ≡ Some (i ++ j)
indices-append os ps i j p q = go (all_some os) (all_some ps) refl refl p q
  where
    go : (y z : Option (List Value)) → all_some os ≡ y → all_some ps ≡ z → option_map (map code) y ≡ Some i →
        option_map (map code) z ≡ Some j →
        indices (os ++ ps) ≡ Some (i ++ j)
    go None z a b p q = cc
    go (Some us) None a b p q = cc
    go (Some us) (Some vs) a b p q = ap (option_map (map code)) (all-append os ps us vs a b) ∙ ap Some (map-append us vs)
        ∙ ap (λ l. Some (l ++ map code vs)) (let e : map code us ≡ i = cc in e)
        ∙ ap (λ l. Some (i ++ l)) (let e : map code vs ≡ j = cc in e)

-- Structures of index lists.
pub append-met : (js ks : Exs) (env : Env) → MeetsAll false js env → MeetsAll false ks env → MeetsAll false (append_exs js ks) env
append-met no_exs ks env a b = b
append-met (more_exs e es) ks env a b = (a.0, append-met es ks env a.1 b)

-- They stay met under names that agree.
pub agree-met : (n : Text → Bool) (es : Exs) (env : Env) (g : Vals) → NamesAreExs n any es → AgreeOn n env.vals g →
    MeetsAll false es env → MeetsAll false es (E env.positions env.types env.cells g)
agree-met n no_exs env g o s m = tt
agree-met n (more_exs e es) env g o s m =
    (meets-agree env.positions env.types env.cells n e env.vals g o.0 s m.0, agree-met n es env g o.1 s m.1)

-- ---- truth values

-- A member of a domain that is bool is a truth value.
pub bool-fits : (dd : Dom) (d : Domain) (env : Env) (v : Value) → domain_of dd env ≡ Some d → member d v ≡ true →
    false_where_undefined (is_bool_dom dd) (Some v) ≡ Some v
bool-fits bool_dom d env v q m = go v (subst (λ z. IsMember z) (sym q) m)
  where
    IsMember : Option Domain → Type 0
    IsMember None = Unit {0}
    IsMember (Some e) = member e v ≡ true

    go : (v : Value) → member booleans v ≡ true → false_where_undefined true (Some v) ≡ Some v
    go (truth b) m = refl
    go (number k) m = no m
    go (item t k) m = no m
    go (node k vs) m = no m
bool-fits _ d env v q m = refl

-- Whether a cell is true.
abbrev pub is_flag : Option ℤ → Bool
is_flag o = as_truth (option_map (cell_value true) o)

-- ---- at an index list

-- The value behind an index list is that of the tables there.
module _ (r : Repr) (d : Domain) (ts : Tables) (i : List ℤ) (short : length ts ≤ width r) where
  place-cells : (j : List ℤ) → behind j (take (width r) (cells_at ts i)) ≡ cells_at ts (i ++ j)
  place-cells j = ap (behind j) (take-all (width r) (cells_at ts i) (let e = cells-long ts i in omega arith)) ∙ sym (cells-append ts i j)

  pub place-value : (j : List ℤ) → In r d (cells_at ts i) j ≡ value_of_tables r d ts (i ++ j)
  place-value j = ap (value_of_cells r d) (place-cells j)

  -- It is tidy there.
  pub place-tidy : (j : List ℤ) (v : Value) → over_axes (i ++ j) (axes_of r d) ts ≡ true → In r d (cells_at ts i) j ≡ Some v →
      member d v ≡ true → orderly_in r d (cells_at ts i) j ≡ true → tidy r d ts (i ++ j) ≡ true
  place-tidy j v a q m o = and-both (over_axes (i ++ j) (axes_of r d) ts) (tidy_cells r d (cells_at ts (i ++ j))) a
      (and-both (is_some_and (value_of_tables r d ts (i ++ j)) (member d)) (is_orderly r d (cells_at ts (i ++ j)))
      (ap (λ o. is_some_and o (member d)) (sym (place-value j) ∙ q) ∙ m) (sym (ap (is_orderly r d) (place-cells j)) ∙ o))

module _ (ce : Dom) (js : Exs) (names : List Text) (r : Repr) (c : Domain) (ts : Tables) (h : Env) (ks : Exs) (l : List ℤ)
    (dom-here : domain_of ce h ≡ Some c) (tables-here : tables_in h.cells names ≡ Some ts)
    (index-here : indices (meanings (append_exs js ks) h) ≡ Some l) where
  -- The view has the value that stands there.
  pub view-value : (v : Value) → value_of_tables r c ts l ≡ Some v → member c v ≡ true → meaning (result_at r ce names js ks) h ≡ Some v
  view-value v q m =
      ap (λ o. false_where_undefined (is_bool_dom ce) (seen_in r o (tables_in h.cells names) (indices (meanings (append_exs js ks) h))))
      dom-here
      ∙ ap (λ o. false_where_undefined (is_bool_dom ce) (seen_in r (Some c) o (indices (meanings (append_exs js ks) h)))) tables-here
      ∙ ap (λ o. false_where_undefined (is_bool_dom ce) (seen_in r (Some c) (Some ts) o)) index-here
      ∙ ap (false_where_undefined (is_bool_dom ce)) q ∙ bool-fits ce c h v dom-here m

  -- Its structure is met where the tables are tidy there.
  pub view-met : tidy r c ts l ≡ true → MeetsDom ce h → MeetsAll false js h → MeetsAll false ks h → Meets (result_at r ce names js ks) h
  view-met t mc mj mk = (
    ap (λ o. tidy_in r o (tables_in h.cells names) (indices (meanings (append_exs js ks) h))) dom-here
        ∙ ap (λ o. tidy_in r (Some c) o (indices (meanings (append_exs js ks) h))) tables-here
        ∙ ap (tidy_in r (Some c) (Some ts)) index-here ∙ t,
    mc,
    append-met js ks h mj mk,
  )

-- The flag there says whether the cell is true.
pub flag-value : (js ks : Exs) (h : Env) (l : List ℤ) (m : Text) (t : Table) → indices (meanings (append_exs js ks) h) ≡ Some l →
    look h.cells m ≡ Some t → meaning (flag_at m js ks) h ≡ Some (truth (is_flag (cell_at t l)))
flag-value js ks h l m t e q = ap (λ o. Some (truth (as_truth (cell_in true o (indices (meanings (append_exs js ks) h)))))) q
    ∙ ap (λ o. Some (truth (as_truth (cell_in true (Some t) o)))) e

-- Under names that agree with those of an env.
module _ (n : Text → Bool) (ce : Dom) (js : Exs) (names : List Text) (r : Repr) (env : Env) (c : Domain) (ts : Tables) (i : List ℤ)
    (new-c : NamesAreDom n any ce) (new-js : NamesAreExs n any js) (dom-is : domain_of ce env ≡ Some c)
    (tables-are : tables_in env.cells names ≡ Some ts) (index-is : indices (meanings js env) ≡ Some i)
    (g : Vals) (agree : AgreeOn n env.vals g) (ks : Exs) (j : List ℤ)
    (keys-are : indices (meanings ks (E env.positions env.types env.cells g)) ≡ Some j) where
  abbrev Here : Env
  Here = E env.positions env.types env.cells g

  dom-here : domain_of ce Here ≡ Some c
  dom-here = domain-agree env.positions env.types env.cells n ce env.vals g new-c agree ∙ dom-is

  index-here : indices (meanings (append_exs js ks) Here) ≡ Some (i ++ j)
  index-here = ap indices (meanings-append js ks Here)
      ∙ indices-append (meanings js Here) (meanings ks Here) i j
      (ap indices (meanings-agree env.positions env.types env.cells n js env.vals g new-js agree) ∙ index-is) keys-are

  -- The view has the value that stands there.
  pub result-is : (v : Value) → value_of_tables r c ts (i ++ j) ≡ Some v → member c v ≡ true →
      meaning (result_at r ce names js ks) Here ≡ Some v
  result-is = view-value ce js names r c ts Here ks (i ++ j) dom-here tables-are index-here

  js-met : MeetsAll false js env → MeetsAll false js Here
  js-met = agree-met n js env g new-js agree

  -- Its structure is met where the tables are tidy there.
  pub result-met : tidy r c ts (i ++ j) ≡ true → MeetsDom ce env → MeetsAll false js env → MeetsAll false ks Here →
      Meets (result_at r ce names js ks) Here
  result-met h mc mj mk = view-met ce js names r c ts Here ks (i ++ j) dom-here tables-are index-here h
      (meets-agree-dom env.positions env.types env.cells n ce env.vals g new-c agree mc) (js-met mj) mk

  -- The flag there says whether the cell is true.
  pub flag-is : (m : Text) (t : Table) → look env.cells m ≡ Some t → meaning (flag_at m js ks) Here ≡
      Some (truth (is_flag (cell_at t (i ++ j))))
  flag-is m t q = flag-value js ks Here (i ++ j) m t index-here q

  pub flag-met : (m : Text) → MeetsAll false js env → MeetsAll false ks Here → Meets (flag_at m js ks) Here
  flag-met m mj mk = append-met js ks Here (js-met mj) mk

-- The tables and the values of components, found one after the other.
use Rattle.std.proofs.Common.{◌≡◌, refl, sym, ap, ◌∙◌, subst, ℕ, ◌+◌, ◌<◌, ◌≤◌, true, false, List, [], ◌∷◌, ◌++◌, map, length, take, drop, get_or, Option, Some, None, option_map}
use Rattle.std.proofs.lemmas.List.{at_drop_all, map_push, map-append}
use Rattle.ess_semantics.specs.Lists.{and_then}
use Rattle.ess_semantics.specs.Values.{Value}
use Rattle.ess_semantics.specs.Trees as pure
use Rattle.ess_semantics.specs.Trees.{more_reprs}
use Rattle.ess_semantics.specs.Domains.{Domain}
use Rattle.ess_semantics.specs.Membership.{member}
use Rattle.ess_semantics.specs.Tables.{Tables}
use Rattle.ess_semantics.specs.Cells.{Axes}
use Rattle.ess_semantics.specs.Declarations.{axes_of}
use Rattle.ess_semantics.specs.Representations.{width, value_of_tables}
use Rattle.ess_semantics.specs.Canonical.{tables_of_value}
use Rattle.ess_semantics.specs.Tidy.{over_axes}
use Rattle.ess_semantics.proofs.Tests.{and-left, and-right}
use Rattle.ess_core.specs.declared.representations.Repr.{Repr}
use Rattle.ess_core.specs.declared.tables.Table.{Table}
use Rattle.ess_core.specs.declared.values.Val.{Val}
use Rattle.ess_core.specs.TreeViews.{pure_repr}
use Rattle.ess_core.specs.TableViews.{pure_table}
use Rattle.ess_core.specs.ValueViews.{pure_val}
use Rattle.ess_eval_domains.specs.declared.closed.Closed.{Closed}
use Rattle.ess_eval_domains.specs.ClosedViews.{pure_closed}
use Rattle.ess_repr_laws.specs.Rooms.{Covered, AllCovered, Roomy, AllRoomy}
use Rattle.ess_repr_laws.proofs.CellDomains.{axes-wide}
use Rattle.ess_repr_layers_laws.specs.LayerParts.{axes_below}
use Rattle.ess_repr_layers_laws.specs.Components.{tables_of_components, values_of_components, members_each}
use Rattle.ess_repr_layers_laws.proofs.LayerUp.{over-both}
use Rattle.ess_repr_tables.specs.SlotViews.{pure_tables}
use Rattle.ess_translate_layers.proofs.Found.{ahead, ahead-nothing, ahead-all, ahead-one, ahead-more, map-take, map-drop}
use Rattle.ess_translate_layers.proofs.ComponentRows.{trees, trees-more, parts-more, vals-more}

-- ---- tables

-- What is known of the components from the i-th on, where all is the whole answer.
pub record Left (whole : Option Tables) (rs : pure.Reprs) (ds : List Domain) (vs : List Value) (found : Tables) : Type 0 where
  pub room : AllRoomy rs ds
  pub inside : members_each ds vs ≡ true
  pub left : whole ≡ ahead found (tables_of_components rs ds vs)

-- The tables of the first i components.
pub record TablesOfFirst (rs : List Repr) (ds : List Closed) (vs : List Val) (i : ℕ) (all : List Table) : Type 0 where
  pub so_far : AllRoomy (trees rs) (map pure_closed ds) → members_each (map pure_closed ds) (map pure_val vs) ≡ true →
      Left (tables_of_components (trees rs) (map pure_closed ds) (map pure_val vs)) (trees (drop i rs)) (map pure_closed (drop i ds))
      (map pure_val (drop i vs)) (map pure_table all)

pub tables_none : (rs : List Repr) (ds : List Closed) (vs : List Val) → TablesOfFirst rs ds vs 0 []
tables_none rs ds vs = record {
  so_far = λ h m. record {
    room = h;
    inside = m;
    left = ahead-nothing (tables_of_components (trees rs) (map pure_closed ds)
        (map pure_val vs));
  };
}

left-more : (whole : Option Tables) (r : pure.Repr) (rs : pure.Reprs) (d : Domain) (ds : List Domain) (v : Value) (vs : List Value)
    (found ts : Tables) →
    (Roomy r d → member d v ≡ true → Some ts ≡ tables_of_value r d v) → Left whole (more_reprs r rs) (d ∷ ds) (v ∷ vs) found →
    Left whole rs ds vs (found ++ ts)
left-more whole r rs d ds v vs found ts f l = record {
  room = l.room.1;
  inside = and-right (member d v) (members_each ds vs) l.inside;
  left = l.left
      ∙ ap (λ o. ahead found (and_then o (λ ts. option_map (λ us. ts ++ us) (tables_of_components rs ds vs))))
      (sym (f l.room.0 (and-left (member d v) (members_each ds vs) l.inside)))
      ∙ ahead-more found ts (tables_of_components rs ds vs);
}

module _ (rs : List Repr) (ds : List Closed) (vs : List Val) (i : ℕ) (x e : Repr) (d b : Closed) (v w : Val) (all : List Table)
    (h : i < length rs) (k : i < length ds) (m : i < length vs) (is : x ≡ get_or rs i e) (js : d ≡ get_or ds i b)
    (ks : v ≡ get_or vs i w) where
  opened : (whole : Option Tables) → Left whole (trees (drop i rs)) (map pure_closed (drop i ds)) (map pure_val (drop i vs))
      (map pure_table all) →
      Left whole (more_reprs (pure_repr x) (trees (drop (i + 1) rs))) (pure_closed d ∷ map pure_closed (drop (i + 1) ds))
      (pure_val v ∷ map pure_val (drop (i + 1) vs)) (map pure_table all)
  opened whole l =
      subst (λ us. Left whole (more_reprs (pure_repr x) (trees (drop (i + 1) rs))) (pure_closed d ∷ map pure_closed (drop (i + 1) ds)) us
      (map pure_table all)) (vals-more vs i v w m ks)
      (subst (λ es. Left whole (more_reprs (pure_repr x) (trees (drop (i + 1) rs))) es (map pure_val (drop i vs)) (map pure_table all))
      (parts-more ds i d b k js)
      (subst (λ ts. Left whole ts (map pure_closed (drop i ds)) (map pure_val (drop i vs)) (map pure_table all))
      (trees-more rs i x e h is) l))

  pub tables_more : (all' ts : List Table) →
      (Roomy (pure_repr x) (pure_closed d) → member (pure_closed d) (pure_val v) ≡ true →
      Some (map pure_table ts) ≡ tables_of_value (pure_repr x) (pure_closed d) (pure_val v)) →
      all' ≡ all ++ ts → TablesOfFirst rs ds vs i all → TablesOfFirst rs ds vs (i + 1) all'
  tables_more all' ts found g s = record {
    so_far = λ room inside.
        let whole = tables_of_components (trees rs) (map pure_closed ds) (map pure_val vs) in
        subst (λ l. Left whole (trees (drop (i + 1) rs)) (map pure_closed (drop (i + 1) ds)) (map pure_val (drop (i + 1) vs)) l)
        (sym (ap (map pure_table) g ∙ map-append pure_table all ts))
        (left-more whole (pure_repr x) (trees (drop (i + 1) rs)) (pure_closed d) (map pure_closed (drop (i + 1) ds)) (pure_val v)
        (map pure_val (drop (i + 1) vs)) (map pure_table all) (map pure_table ts) found
        (opened whole (s.so_far room inside)));
  }

  pub tables_stop :
      (Roomy (pure_repr x) (pure_closed d) → member (pure_closed d) (pure_val v) ≡ true →
      None ≡ tables_of_value (pure_repr x) (pure_closed d) (pure_val v)) →
      TablesOfFirst rs ds vs i all → AllRoomy (trees rs) (map pure_closed ds) → members_each (map pure_closed ds) (map pure_val vs) ≡ true →
      None ≡ tables_of_components (trees rs) (map pure_closed ds) (map pure_val vs)
  tables_stop found s room inside =
      let l = opened (tables_of_components (trees rs) (map pure_closed ds) (map pure_val vs)) (s.so_far room inside) in
      ap (λ o. ahead (map pure_table all)
      (and_then o (λ ts. option_map (λ us. ts ++ us) (tables_of_components (trees (drop (i + 1) rs)) (map pure_closed (drop (i + 1) ds))
      (map pure_val (drop (i + 1) vs))))))
      (found l.room.0 (and-left (member (pure_closed d) (pure_val v)) (members_each (map pure_closed (drop (i + 1) ds))
      (map pure_val (drop (i + 1) vs))) l.inside))
      ∙ sym l.left

no-domains : (whole : Option Tables) (r : pure.Repr) (rs : pure.Reprs) (vs : List Value) (found : Tables) →
    Left whole (more_reprs r rs) [] vs found → None ≡ whole
no-domains whole r rs vs found l = absurd l.room

no-values : (whole : Option Tables) (r : pure.Repr) (rs : pure.Reprs) (ds : List Domain) (found : Tables) →
    Left whole (more_reprs r rs) ds [] found → None ≡ whole
no-values whole r rs [] found l = absurd l.room
no-values whole r rs (d ∷ ds) found l = let z : false ≡ true = l.inside in cc

pub tables_short : (rs : List Repr) (ds : List Closed) (vs : List Val) (i : ℕ) (x e : Repr) (all : List Table) → i < length rs →
    x ≡ get_or rs i e → length ds ≤ i →
    TablesOfFirst rs ds vs i all → AllRoomy (trees rs) (map pure_closed ds) → members_each (map pure_closed ds) (map pure_val vs) ≡ true →
    None ≡ tables_of_components (trees rs) (map pure_closed ds) (map pure_val vs)
tables_short rs ds vs i x e all h is k s room inside =
    let whole = tables_of_components (trees rs) (map pure_closed ds) (map pure_val vs) in
    no-domains whole (pure_repr x) (trees (drop (i + 1) rs)) (map pure_val (drop i vs)) (map pure_table all)
    (subst (λ es. Left whole (more_reprs (pure_repr x) (trees (drop (i + 1) rs))) es (map pure_val (drop i vs)) (map pure_table all))
    (at_drop_all (map pure_closed) ds i k)
    (subst (λ ts. Left whole ts (map pure_closed (drop i ds)) (map pure_val (drop i vs)) (map pure_table all)) (trees-more rs i x e h is)
    (s.so_far room inside)))

pub tables_few : (rs : List Repr) (ds : List Closed) (vs : List Val) (i : ℕ) (x e : Repr) (all : List Table) → i < length rs →
    x ≡ get_or rs i e → length vs ≤ i →
    TablesOfFirst rs ds vs i all → AllRoomy (trees rs) (map pure_closed ds) → members_each (map pure_closed ds) (map pure_val vs) ≡ true →
    None ≡ tables_of_components (trees rs) (map pure_closed ds) (map pure_val vs)
tables_few rs ds vs i x e all h is k s room inside =
    let whole = tables_of_components (trees rs) (map pure_closed ds) (map pure_val vs) in
    no-values whole (pure_repr x) (trees (drop (i + 1) rs)) (map pure_closed (drop i ds)) (map pure_table all)
    (subst (λ us. Left whole (more_reprs (pure_repr x) (trees (drop (i + 1) rs))) (map pure_closed (drop i ds)) us (map pure_table all))
    (at_drop_all (map pure_val) vs i k)
    (subst (λ ts. Left whole ts (map pure_closed (drop i ds)) (map pure_val (drop i vs)) (map pure_table all)) (trees-more rs i x e h is)
    (s.so_far room inside)))

pub tables_all : (rs : List Repr) (ds : List Closed) (vs : List Val) (i : ℕ) (all : List Table) → length rs ≤ i →
    TablesOfFirst rs ds vs i all →
    AllRoomy (trees rs) (map pure_closed ds) → members_each (map pure_closed ds) (map pure_val vs) ≡ true →
    Some (map pure_table all) ≡ tables_of_components (trees rs) (map pure_closed ds) (map pure_val vs)
tables_all rs ds vs i all h s room inside =
    let l = s.so_far room inside in
    sym (ahead-all (map pure_table all))
    ∙ ap (λ t. ahead (map pure_table all) (tables_of_components t (map pure_closed (drop i ds)) (map pure_val (drop i vs))))
    (sym (at_drop_all trees rs i h)) ∙ sym l.left

-- ---- values

pub record Rest (whole : Option (List Value)) (rs : pure.Reprs) (ds : List Domain) (ts : Tables) (found : List Value) : Type 0 where
  pub cover : AllCovered rs ds
  pub over : over_axes [] (axes_below rs ds []) ts ≡ true
  pub left : whole ≡ ahead found (values_of_components rs ds ts)

-- The values of the first i components, where `rest` are the tables of the others.
pub record ValuesOfFirst (rs : List Repr) (ds : List Closed) (ts : List Table) (i : ℕ) (rest : List Table) (vals : List Val) : Type 0 where
  pub so_far : AllCovered (trees rs) (map pure_closed ds) → over_axes [] (axes_below (trees rs) (map pure_closed ds) [])
      (pure_tables ts) ≡ true →
      Rest (values_of_components (trees rs) (map pure_closed ds) (pure_tables ts)) (trees (drop i rs)) (map pure_closed (drop i ds))
      (pure_tables rest) (map pure_val vals)

pub values_none : (rs : List Repr) (ds : List Closed) (ts : List Table) → ValuesOfFirst rs ds ts 0 ts []
values_none rs ds ts = record {
  so_far = λ h m. record {
    cover = h;
    over = m;
    left = ahead-nothing (values_of_components (trees rs) (map pure_closed ds)
        (pure_tables ts));
  };
}

map-same : (ass : List Axes) → map (λ (as' : Axes). [] ++ as') ass ≡ ass
map-same [] = refl
map-same (as' ∷ ass) = ap (λ l. as' ∷ l) (map-same ass)

-- the tables of the first component, and the others
split : (r : pure.Repr) (rs : pure.Reprs) (d : Domain) (ds : List Domain) (ts : Tables) → Covered r d →
    over_axes [] (axes_below (more_reprs r rs) (d ∷ ds) []) ts ≡ true →
    (over_axes [] (axes_of r d) (take (width r) ts) ≡ true) × (over_axes [] (axes_below rs ds []) (drop (width r) ts) ≡ true)
split r rs d ds ts c o =
    let q : axes_below (more_reprs r rs) (d ∷ ds) [] ≡ axes_of r d ++ axes_below rs ds [] = ap (λ l. l ++ axes_below rs ds [])
    (map-same (axes_of r d)) in
    let p = over-both (axes_of r d) (axes_below rs ds []) ts (subst (λ ass. over_axes [] ass ts ≡ true) q o) in (
      subst (λ n. over_axes [] (axes_of r d) (take n ts) ≡ true) (axes-wide r d c) p.0,
      subst (λ n. over_axes [] (axes_below rs ds []) (drop n ts) ≡ true) (axes-wide r d c) p.1,
    )

rest-more : (whole : Option (List Value)) (r : pure.Repr) (rs : pure.Reprs) (d : Domain) (ds : List Domain) (ts : Tables)
    (found : List Value) (v : Value) →
    (Covered r d → over_axes [] (axes_of r d) (take (width r) ts) ≡ true → Some v ≡ value_of_tables r d (take (width r) ts) []) →
    Rest whole (more_reprs r rs) (d ∷ ds) ts found → Rest whole rs ds (drop (width r) ts) (found ++ v ∷ [])
rest-more whole r rs d ds ts found v f l =
    let p = split r rs d ds ts l.cover.0 l.over in
    record {
      cover = l.cover.1;
      over = p.1;
      left = l.left ∙ ap (λ o. ahead found (and_then o (λ v. option_map (λ vs. v ∷ vs) (values_of_components rs ds (drop (width r) ts)))))
          (sym (f l.cover.0 p.0))
          ∙ ahead-one found v (values_of_components rs ds (drop (width r) ts));
    }

module _ (rs : List Repr) (ds : List Closed) (ts : List Table) (i : ℕ) (x e : Repr) (d b : Closed) (rest first : List Table)
    (vals : List Val) (n : ℕ)
    (h : i < length rs) (k : i < length ds) (is : x ≡ get_or rs i e) (js : d ≡ get_or ds i b) (wide : n ≡ width (pure_repr x))
    (front : first ≡ take n rest) where
  opened-up : (whole : Option (List Value)) → Rest whole (trees (drop i rs)) (map pure_closed (drop i ds)) (pure_tables rest)
      (map pure_val vals) →
      Rest whole (more_reprs (pure_repr x) (trees (drop (i + 1) rs))) (pure_closed d ∷ map pure_closed (drop (i + 1) ds)) (pure_tables rest)
      (map pure_val vals)
  opened-up whole l =
      subst (λ es. Rest whole (more_reprs (pure_repr x) (trees (drop (i + 1) rs))) es (pure_tables rest) (map pure_val vals))
      (parts-more ds i d b k js)
      (subst (λ us. Rest whole us (map pure_closed (drop i ds)) (pure_tables rest) (map pure_val vals)) (trees-more rs i x e h is) l)

  first-is : pure_tables first ≡ take (width (pure_repr x)) (pure_tables rest)
  first-is = ap pure_tables front ∙ map-take pure_table n rest ∙ ap (λ m. take m (pure_tables rest)) wide

  pub values_more : (v : Val) (vals' : List Val) (rest' : List Table) →
      (Covered (pure_repr x) (pure_closed d) → over_axes [] (axes_of (pure_repr x) (pure_closed d)) (pure_tables first) ≡ true →
      Some (pure_val v) ≡ value_of_tables (pure_repr x) (pure_closed d) (pure_tables first) []) →
      vals' ≡ vals ++ v ∷ [] → rest' ≡ drop n rest → ValuesOfFirst rs ds ts i rest vals → ValuesOfFirst rs ds ts (i + 1) rest' vals'
  values_more v vals' rest' found g q s = record {
    so_far = λ cover over.
        let whole = values_of_components (trees rs) (map pure_closed ds) (pure_tables ts) in
        subst (λ us. Rest whole (trees (drop (i + 1) rs)) (map pure_closed (drop (i + 1) ds)) us (map pure_val vals'))
        (sym (ap pure_tables q ∙ map-drop pure_table n rest ∙ ap (λ m. drop m (pure_tables rest)) wide))
        (subst (λ l. Rest whole (trees (drop (i + 1) rs)) (map pure_closed (drop (i + 1) ds))
        (drop (width (pure_repr x)) (pure_tables rest)) l)
        (sym (ap (map pure_val) g ∙ map_push pure_val vals v))
        (rest-more whole (pure_repr x) (trees (drop (i + 1) rs)) (pure_closed d) (map pure_closed (drop (i + 1) ds)) (pure_tables rest)
        (map pure_val vals) (pure_val v)
        (λ c o. found c (ap (over_axes [] (axes_of (pure_repr x) (pure_closed d))) first-is ∙ o)
        ∙ ap (λ us. value_of_tables (pure_repr x) (pure_closed d) us []) first-is)
        (opened-up whole (s.so_far cover over))));
  }

  pub values_stop :
      (Covered (pure_repr x) (pure_closed d) → over_axes [] (axes_of (pure_repr x) (pure_closed d)) (pure_tables first) ≡ true →
      None ≡ value_of_tables (pure_repr x) (pure_closed d) (pure_tables first) []) →
      ValuesOfFirst rs ds ts i rest vals → AllCovered (trees rs) (map pure_closed ds) →
      over_axes [] (axes_below (trees rs) (map pure_closed ds) []) (pure_tables ts) ≡ true →
      None ≡ values_of_components (trees rs) (map pure_closed ds) (pure_tables ts)
  values_stop found s cover over =
      let l = opened-up (values_of_components (trees rs) (map pure_closed ds) (pure_tables ts)) (s.so_far cover over) in
      let p = split (pure_repr x) (trees (drop (i + 1) rs)) (pure_closed d) (map pure_closed (drop (i + 1) ds))
      (pure_tables rest) l.cover.0 l.over in
      ap (λ o. ahead (map pure_val vals)
      (and_then o (λ v. option_map (λ vs. v ∷ vs) (values_of_components (trees (drop (i + 1) rs)) (map pure_closed (drop (i + 1) ds))
      (drop (width (pure_repr x)) (pure_tables rest))))))
      (found l.cover.0 (ap (over_axes [] (axes_of (pure_repr x) (pure_closed d))) first-is ∙ p.0)
      ∙ ap (λ us. value_of_tables (pure_repr x) (pure_closed d) us []) first-is)
      ∙ sym l.left

pub values_short : (rs : List Repr) (ds : List Closed) (ts : List Table) (i : ℕ) (x e : Repr) (rest : List Table) (vals : List Val) →
    i < length rs → x ≡ get_or rs i e → length ds ≤ i →
    ValuesOfFirst rs ds ts i rest vals → AllCovered (trees rs) (map pure_closed ds) →
    over_axes [] (axes_below (trees rs) (map pure_closed ds) []) (pure_tables ts) ≡ true →
    None ≡ values_of_components (trees rs) (map pure_closed ds) (pure_tables ts)
values_short rs ds ts i x e rest vals h is k s cover over =
    let whole = values_of_components (trees rs) (map pure_closed ds) (pure_tables ts) in
    none (subst (λ es. Rest whole (more_reprs (pure_repr x) (trees (drop (i + 1) rs))) es (pure_tables rest) (map pure_val vals))
    (at_drop_all (map pure_closed) ds i k)
    (subst (λ us. Rest whole us (map pure_closed (drop i ds)) (pure_tables rest) (map pure_val vals)) (trees-more rs i x e h is)
    (s.so_far cover over)))
  where
    none : Rest (values_of_components (trees rs) (map pure_closed ds) (pure_tables ts))
        (more_reprs (pure_repr x) (trees (drop (i + 1) rs))) [] (pure_tables rest) (map pure_val vals) →
        None ≡ values_of_components (trees rs) (map pure_closed ds) (pure_tables ts)
    none l = absurd l.cover

pub values_all : (rs : List Repr) (ds : List Closed) (ts : List Table) (i : ℕ) (rest : List Table) (vals : List Val) → length rs ≤ i →
    ValuesOfFirst rs ds ts i rest vals →
    AllCovered (trees rs) (map pure_closed ds) → over_axes [] (axes_below (trees rs) (map pure_closed ds) []) (pure_tables ts) ≡ true →
    Some (map pure_val vals) ≡ values_of_components (trees rs) (map pure_closed ds) (pure_tables ts)
values_all rs ds ts i rest vals h s cover over =
    let l = s.so_far cover over in
    sym (ahead-all (map pure_val vals))
    ∙ ap (λ t. ahead (map pure_val vals) (values_of_components t (map pure_closed (drop i ds)) (pure_tables rest)))
    (sym (at_drop_all trees rs i h)) ∙ sym l.left

-- Tables by their names: those of several plans one behind the other are each found by their names, and tables fit their
-- declarations exactly where each plan's do.
use Rattle.std.proofs.Common.{◌≡◌, refl, sym, ap, ◌∙◌, suc, Bool, true, false, ◌&&◌, ◌||◌, not, if◌then◌else◌, List, [], ◌∷◌, ◌++◌, map, length, ℤ, ◌⊎◌, inl, inr, Option, Some, None, option_map, append_assoc}
use Rattle.std.specs.List.{list_all}
use Rattle.ess_semantics.specs.Lists.{and_then, each_of, append_all, zip, is_some_and}
use Rattle.ess_semantics.specs.Values.{Text}
use Rattle.ess_semantics.specs.Order.{same_text, same_ints}
use Rattle.ess_semantics.specs.Names.{Names, look, keys, is_among, all_distinct}
use Rattle.ess_semantics.specs.Domains.{Domain}
use Rattle.ess_semantics.specs.Tables.{Table, Tables, same_axes, is_filled, is_cell}
use Rattle.ess_semantics.specs.Cells.{Axes}
use Rattle.ess_semantics.specs.Declarations.{Declaration}
use Rattle.ess_semantics.specs.Tidy.{over_axes}
use Rattle.ess_semantics.specs.TableNames.{Named}
use Rattle.ess_semantics.specs.DeclaredTables.{TableDecl, decl_name, axis_members, SameMembers, DeclaredAs}
use Rattle.ess_semantics.specs.Plans.{Plan, names_of_plan, names_of_plans, name_tables}
use Rattle.ess_semantics.specs.Meaning.{tables_in}
use Rattle.ess_semantics.specs.ModelMeaning.{model_domain}
use Rattle.ess_semantics.specs.Satisfaction.{in_declared, table_fits, tables_fit}
use Rattle.ess_semantics.proofs.Tests.{and-left, and-right, and-both, or-yes, or-left-no, or-right-no, not-true}
use Rattle.ess_semantics.proofs.Orders.{same_ints-equal, same_ints-itself}
use Rattle.ess_semantics.proofs.Texts.{same_text-equal, same_text-itself, same_text-either}
use Rattle.conjure_laws.specs.Members.{In}
use Rattle.conjure_laws.specs.SideBySide.{Along}
use Rattle.ess_repr_laws.specs.CanonicalTables.{TablesFit}
use Rattle.conjure_laws.specs.Premises.{table_is, tables_are}

-- ---- names

-- A name among others stands in their list.
pub among-in : (ns : List Text) (a : Text) → is_among ns a ≡ true → In a ns
among-in [] a e = cc
among-in (n ∷ ns) a e = go (same_text n a) refl e (among-in ns a)
  where
    go : (b : Bool) → same_text n a ≡ b → b || is_among ns a ≡ true → (is_among ns a ≡ true → In a ns) → (a ≡ n) ⊎ In a ns
    go true q e k = inl (sym (same_text-equal n a q))
    go false q e k = inr (k e)

-- And the other way round.
pub in-among : (ns : List Text) (a : Text) → In a ns → is_among ns a ≡ true
in-among [] a i = absurd i
in-among (n ∷ ns) a (inl e) = ap (λ b. b || is_among ns a) (ap (λ z. same_text z a) (sym e) ∙ same_text-itself a)
in-among (n ∷ ns) a (inr i) = ap (λ b. same_text n a || b) (in-among ns a i) ∙ or-yes (same_text n a)

among-middle : (ks ls : List Text) (k a : Text) → is_among (ks ++ (k ∷ ls)) a ≡ false → same_text k a ≡ false
among-middle [] ls k a e = or-left-no (same_text k a) (is_among ls a) e
among-middle (b ∷ ks) ls k a e = among-middle ks ls k a (or-right-no (same_text b a) (is_among (ks ++ (k ∷ ls)) a) e)

-- The names of both maps.
pub keys-append : {A : Type 0} (bs cs : Names A) → keys (bs ++ cs) ≡ keys bs ++ keys cs
keys-append [] cs = refl
keys-append (b ∷ bs) cs = ap (λ l. b.0 ∷ l) (keys-append bs cs)

-- An entry is found by its name, where no name stands twice.
pub look-middle : {A : Type 0} (bs cs : Names A) (k : Text) (x : A) → all_distinct (keys (bs ++ ((k, x) ∷ cs))) ≡ true →
    look (bs ++ ((k, x) ∷ cs)) k ≡ Some x
look-middle [] cs k x e = ap (λ b. if b then Some x else look cs k) (same_text-itself k)
look-middle {A = A} (b ∷ bs) cs k x e =
    let n : is_among (keys (bs ++ ((k, x) ∷ cs))) b.0 ≡ false =
    not-true _ (and-left (not (is_among (keys (bs ++ ((k, x) ∷ cs))) b.0)) (all_distinct (keys (bs ++ ((k, x) ∷ cs)))) e) in
    let m : same_text k b.0 ≡ false = among-middle (keys bs) (keys cs) k b.0
    (ap (λ l. is_among l b.0) (sym (keys-append bs ((k, x) ∷ cs))) ∙ n) in
    ap (λ c. if c then Some b.1 else look (bs ++ ((k, x) ∷ cs)) k) (same_text-either b.0 k ∙ m)
    ∙ look-middle bs cs k x (and-right (not (is_among (keys (bs ++ ((k, x) ∷ cs))) b.0)) (all_distinct (keys (bs ++ ((k, x) ∷ cs))))
    e)

-- Of a map without a name twice, a stretch of tables is found by its names.
pub stretch-named : (c : Names Table) → all_distinct (keys c) ≡ true →
    (c0 : Names Table) (ns : List Named) (ts : Tables) (c1 : Names Table) → length ns ≡ length ts →
    c ≡ c0 ++ (name_tables ns ts ++ c1) → tables_in c (keys ns) ≡ Some ts
stretch-named c d c0 [] [] c1 l e = refl
stretch-named c d c0 [] (t ∷ ts) c1 l e = cc
stretch-named c d c0 (n ∷ ns) [] c1 l e = cc
stretch-named c d c0 (n ∷ ns) (t ∷ ts) c1 l e =
    let l' : length ns ≡ length ts = cc in
    let h : look c n.0 ≡ Some t = ap (λ m. look m n.0) e
    ∙ look-middle c0 (name_tables ns ts ++ c1) n.0 t (ap (λ m. all_distinct (keys m)) (sym e) ∙ d) in
    ap (λ o. and_then o (λ y. option_map (λ ys. y ∷ ys) (tables_in c (keys ns)))) h
    ∙ ap (option_map (λ ys. t ∷ ys)) (stretch-named c d (c0 ++ ((n.0, t) ∷ [])) ns ts c1 l'
    (e ∙ sym (append_assoc c0 ((n.0, t) ∷ []) (name_tables ns ts ++ c1))))

-- ---- plans one behind the other

-- The tables of each plan by their names.
abbrev pub chunks : List Plan → List Tables → List (Names Table)
chunks (P ∷ Ps) (ts ∷ tss) = name_tables (names_of_plan P) ts ∷ chunks Ps tss
chunks _ _ = []

-- Each plan has as many tables as names.
abbrev pub AsMany : Plan → Tables → Type 0
AsMany P ts = length (names_of_plan P) ≡ length ts

-- Of a map without a name twice, the tables of each plan are found by its names.
pub chunks-named : (c : Names Table) → all_distinct (keys c) ≡ true → (c0 : Names Table) (Ps : List Plan) (tss : List Tables) →
    Along Ps tss AsMany →
    c ≡ c0 ++ append_all (chunks Ps tss) → Along Ps tss (λ P ts. tables_in c (keys (names_of_plan P)) ≡ Some ts)
chunks-named c d c0 [] [] l e = tt
chunks-named c d c0 (P ∷ Ps) (ts ∷ tss) l e = (
  stretch-named c d c0 (names_of_plan P) ts (append_all (chunks Ps tss)) l.0 e,
  chunks-named c d (c0 ++ name_tables (names_of_plan P) ts) Ps tss l.1
      (e ∙ sym (append_assoc c0 (name_tables (names_of_plan P) ts) (append_all (chunks Ps tss)))),
)
chunks-named c d c0 [] (ts ∷ tss) l e = absurd l
chunks-named c d c0 (P ∷ Ps) [] l e = absurd l

zip-append : {A B : Type 0} (ks ls : List A) (ts us : List B) → length ks ≡ length ts →
    zip (ks ++ ls) (ts ++ us) ≡ zip ks ts ++ zip ls us
zip-append [] ls [] us e = refl
zip-append [] ls (t ∷ ts) us e = cc
zip-append (k ∷ ks) ls [] us e = cc
zip-append (k ∷ ks) ls (t ∷ ts) us e = let e' : length ks ≡ length ts = cc in ap (λ l. (k, t) ∷ l) (zip-append ks ls ts us e')

keys-length : {A : Type 0} (ns : Names A) → length (keys ns) ≡ length ns
keys-length [] = refl
keys-length (n ∷ ns) = ap suc (keys-length ns)

-- Tables side by side with the names of the plans are those of each plan.
pub chunks-zip : (Ps : List Plan) (tss : List Tables) → Along Ps tss AsMany →
    zip (keys (names_of_plans Ps)) (append_all tss) ≡ append_all (chunks Ps tss)
chunks-zip [] [] l = refl
chunks-zip (P ∷ Ps) (ts ∷ tss) l =
    ap (λ ks. zip ks (ts ++ append_all tss)) (keys-append (names_of_plan P) (names_of_plans Ps))
    ∙ zip-append (keys (names_of_plan P)) (keys (names_of_plans Ps)) ts (append_all tss) (keys-length (names_of_plan P) ∙ l.0)
    ∙ ap (λ l. name_tables (names_of_plan P) ts ++ l) (chunks-zip Ps tss l.1)
chunks-zip [] (ts ∷ tss) l = absurd l
chunks-zip (P ∷ Ps) [] l = absurd l

zip-keys : (ks : List Text) (ts : Tables) → length ks ≡ length ts → keys (zip ks ts) ≡ ks
zip-keys [] [] e = refl
zip-keys [] (t ∷ ts) e = refl
zip-keys (k ∷ ks) [] e = cc
zip-keys (k ∷ ks) (t ∷ ts) e = let e' : length ks ≡ length ts = cc in ap (λ l. k ∷ l) (zip-keys ks ts e')

-- Their names are those of the plans.
pub chunks-keys : (Ps : List Plan) (tss : List Tables) → Along Ps tss AsMany →
    keys (append_all (chunks Ps tss)) ≡ keys (names_of_plans Ps)
chunks-keys [] [] l = refl
chunks-keys (P ∷ Ps) (ts ∷ tss) l =
    keys-append (name_tables (names_of_plan P) ts) (append_all (chunks Ps tss))
    ∙ ap (λ k. k ++ keys (append_all (chunks Ps tss))) (zip-keys (keys (names_of_plan P)) ts (keys-length (names_of_plan P) ∙ l.0))
    ∙ ap (λ k. keys (names_of_plan P) ++ k) (chunks-keys Ps tss l.1) ∙ sym (keys-append (names_of_plan P) (names_of_plans Ps))
chunks-keys [] (ts ∷ tss) l = absurd l
chunks-keys (P ∷ Ps) [] l = absurd l

-- ---- tables over declarations

-- Tables as declared by two lists are those of either.
pub are-split : (ds es : List Declaration) (ts : Tables) → tables_are (ds ++ es) ts ≡ true →
    (us : Tables) × (vs : Tables) × (ts ≡ us ++ vs) × (tables_are ds us ≡ true) × (tables_are es vs ≡ true)
are-split [] es ts e = ([], ts, refl, refl, e)
are-split (d ∷ ds) es [] e = cc
are-split (d ∷ ds) es (t ∷ ts) e =
    let r = are-split ds es ts (and-right (table_is d t) (tables_are (ds ++ es) ts) e) in (
      t ∷ r.0,
      r.1,
      ap (λ l. t ∷ l) r.2,
      and-both (table_is d t) (tables_are ds r.0) (and-left (table_is d t) (tables_are (ds ++ es) ts) e)
          r.3,
      r.4,
    )

-- And the other way round.
pub are-join : (ds es : List Declaration) (us vs : Tables) → tables_are ds us ≡ true → tables_are es vs ≡ true →
    tables_are (ds ++ es) (us ++ vs) ≡ true
are-join [] es [] vs d e = e
are-join [] es (u ∷ us) vs d e = cc
are-join (x ∷ ds) es [] vs d e = cc
are-join (x ∷ ds) es (u ∷ us) vs d e =
    and-both (table_is x u) (tables_are (ds ++ es) (us ++ vs)) (and-left (table_is x u) (tables_are ds us) d)
    (are-join ds es us vs (and-right (table_is x u) (tables_are ds us) d) e)

-- Tables as declared by all plans are those of each plan.
pub all-split : {A : Type 0} (D : A → List Declaration) (Ps : List A) (ts : Tables) → tables_are (append_all (map D Ps)) ts ≡ true →
    (tss : List Tables) × (ts ≡ append_all tss) × Along Ps tss (λ P us. tables_are (D P) us ≡ true)
all-split D [] [] e = ([], refl, tt)
all-split D [] (t ∷ ts) e = cc
all-split D (P ∷ Ps) ts e =
    let r = are-split (D P) (append_all (map D Ps)) ts e in
    let s = all-split D Ps r.1 r.4 in
    (r.0 ∷ s.0, r.2 ∙ ap (λ l. r.0 ++ l) s.1, (r.3, s.2))

-- And the other way round.
pub all-join : {A : Type 0} (D : A → List Declaration) (Ps : List A) (tss : List Tables) →
    Along Ps tss (λ P us. tables_are (D P) us ≡ true) → tables_are (append_all (map D Ps)) (append_all tss) ≡ true
all-join D [] [] h = refl
all-join D (P ∷ Ps) (ts ∷ tss) h = are-join (D P) (append_all (map D Ps)) ts (append_all tss) h.0 (all-join D Ps tss h.1)
all-join D [] (ts ∷ tss) h = absurd h
all-join D (P ∷ Ps) [] h = absurd h

-- There are as many tables as declarations.
pub are-long : (ds : List Declaration) (ts : Tables) → tables_are ds ts ≡ true → length ds ≡ length ts
are-long [] [] e = refl
are-long [] (t ∷ ts) e = cc
are-long (d ∷ ds) [] e = cc
are-long (d ∷ ds) (t ∷ ts) e = ap suc (are-long ds ts (and-right (table_is d t) (tables_are ds ts) e))

-- Axes that are the same are equal.
pub same_axes-equal : (as' bs : Axes) → same_axes as' bs ≡ true → as' ≡ bs
same_axes-equal [] [] e = refl
same_axes-equal [] (b ∷ bs) e = cc
same_axes-equal (a ∷ as') [] e = cc
same_axes-equal (a ∷ as') (b ∷ bs) e =
    ap (λ x. x ∷ as') (same_ints-equal a b (and-left (same_ints a b) (same_axes as' bs) e))
    ∙ ap (λ l. b ∷ l) (same_axes-equal as' bs (and-right (same_ints a b) (same_axes as' bs) e))

-- Axes are the same as themselves.
pub same_axes-itself : (as' : Axes) → same_axes as' as' ≡ true
same_axes-itself [] = refl
same_axes-itself (a ∷ as') = and-both (same_ints a a) (same_axes as' as') (same_ints-itself a) (same_axes-itself as')

-- Such tables are over the declared axes.
pub are-over : (ds : List Declaration) (ts : Tables) → tables_are ds ts ≡ true → over_axes [] (map (λ d. d.axes) ds) ts ≡ true
are-over [] [] e = refl
are-over [] (t ∷ ts) e = cc
are-over (d ∷ ds) [] e = cc
are-over (d ∷ ds) (t ∷ ts) e =
    let h = and-left (table_is d t) (tables_are ds ts) e in
    let g = and-left (is_filled t && same_axes d.axes t.axes) (list_all (is_cell d.cell) t.items) h in
    let q : d.axes ≡ t.axes = same_axes-equal d.axes t.axes (and-right (is_filled t) (same_axes d.axes t.axes) g) in
    and-both (is_filled t && same_axes t.axes d.axes) (over_axes [] (map (λ d. d.axes) ds) ts)
    (and-both (is_filled t) (same_axes t.axes d.axes) (and-left (is_filled t) (same_axes d.axes t.axes) g)
    (ap (same_axes t.axes) q ∙ same_axes-itself t.axes))
    (are-over ds ts (and-right (table_is d t) (tables_are ds ts) e))

-- Tables over the declared axes that fit the declared domains are such.
pub over-are : (ds : List Declaration) (ts : Tables) → over_axes [] (map (λ d. d.axes) ds) ts ≡ true → TablesFit ds ts →
    tables_are ds ts ≡ true
over-are [] [] o f = refl
over-are [] (t ∷ ts) o f = absurd f
over-are (d ∷ ds) [] o f = absurd f
over-are (d ∷ ds) (t ∷ ts) o f =
    let w = and-left (is_filled t && same_axes t.axes d.axes) (over_axes [] (map (λ d. d.axes) ds) ts) o in
    and-both (table_is d t) (tables_are ds ts)
    (and-both (is_filled t && same_axes d.axes t.axes) (list_all (is_cell d.cell) t.items)
    (and-both (is_filled t) (same_axes d.axes t.axes) (and-left (is_filled t) (same_axes t.axes d.axes) w)
    (ap (same_axes d.axes) f.0 ∙ same_axes-itself d.axes)) f.1)
    (over-are ds ts (and-right (is_filled t && same_axes t.axes d.axes) (over_axes [] (map (λ d. d.axes) ds) ts) o) f.2)

-- ---- tables that fit the declarations of a model

module _ (all : List TableDecl) (q : Names Table) where
  same-cells : (o : Option Domain) (e : Domain) (is : List ℤ) → SameMembers o e →
      is_some_and o (λ c. list_all (is_cell c) is) ≡ list_all (is_cell e) is
  same-cells None e is h = absurd h
  same-cells (Some d) e [] h = refl
  same-cells (Some d) e (i ∷ is) h = ap (λ b. b && list_all (is_cell d) is) (h i)
      ∙ ap (λ b. is_cell e i && b) (same-cells (Some d) e is h)

  -- A table fits a declaration where it is as declared.
  pub table-fits : (f : TableDecl) (d : Declaration) (t : Table) →
      each_of f.axes (λ a. axis_members (model_domain all q a)) ≡ Some d.axes →
      SameMembers (model_domain all q f.cell) d.cell →
      table_fits all q f t ≡ table_is d t
  table-fits f d t a m =
      ap (λ o. (is_filled t && is_some_and o (λ as'. same_axes as' t.axes)) && in_declared all q f t) a
      ∙ ap (λ b. (is_filled t && same_axes d.axes t.axes) && b) (same-cells (model_domain all q f.cell) d.cell t.items m)

  -- Tables fit where they stand under the declared names in order, and are as declared.
  pub fit-are : (fs : List TableDecl) (ds : List Declaration) (c : Names Table) → DeclaredAs (model_domain all q) fs ds →
      tables_fit all q fs c ≡ true →
      (ts : Tables) × (c ≡ zip (keys (map decl_name fs)) ts) × (tables_are ds ts ≡ true)
  fit-are [] [] [] h e = ([], refl, refl)
  fit-are [] [] (b ∷ c) h e = cc
  fit-are (f ∷ fs) (d ∷ ds) [] h e = cc
  fit-are (f ∷ fs) (d ∷ ds) (b ∷ c) h e =
      let x = and-left (same_text f.name b.0 && table_fits all q f b.1) (tables_fit all q fs c) e in
      let n : f.name ≡ b.0 = same_text-equal f.name b.0 (and-left (same_text f.name b.0) (table_fits all q f b.1) x) in
      let r = fit-are fs ds c h.2 (and-right (same_text f.name b.0 && table_fits all q f b.1) (tables_fit all q fs c) e) in (
        b.1 ∷ r.0,
        ap (λ k. (k, b.1) ∷ c) (sym n) ∙ ap (λ l. (f.name, b.1) ∷ l) r.1,
        and-both (table_is d b.1) (tables_are ds r.0) (sym (table-fits f d b.1 h.0 h.1)
            ∙ and-right (same_text f.name b.0) (table_fits all q f b.1) x) r.2,
      )
  fit-are [] (d ∷ ds) c h e = absurd h
  fit-are (f ∷ fs) [] c h e = absurd h

  -- Tables as declared fit under the declared names.
  pub are-fit : (fs : List TableDecl) (ds : List Declaration) (ts : Tables) → DeclaredAs (model_domain all q) fs ds →
      tables_are ds ts ≡ true → tables_fit all q fs (zip (keys (map decl_name fs)) ts) ≡ true
  are-fit [] [] [] h e = refl
  are-fit [] [] (t ∷ ts) h e = cc
  are-fit (f ∷ fs) (d ∷ ds) [] h e = cc
  are-fit (f ∷ fs) (d ∷ ds) (t ∷ ts) h e =
      and-both (same_text f.name f.name && table_fits all q f t) (tables_fit all q fs (zip (keys (map decl_name fs)) ts))
      (and-both (same_text f.name f.name) (table_fits all q f t) (same_text-itself f.name)
      (table-fits f d t h.0 h.1 ∙ and-left (table_is d t) (tables_are ds ts) e))
      (are-fit fs ds ts h.2 (and-right (table_is d t) (tables_are ds ts) e))
  are-fit [] (d ∷ ds) ts h e = absurd h
  are-fit (f ∷ fs) [] ts h e = absurd h

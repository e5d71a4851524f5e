-- The item of an alternative for a bound name, behind the alternative's generators: the type of the comprehension stays.
use Rattle.std.proofs.Common.{◌≡◌, refl, sym, ap, ◌∙◌, subst, Bool, true, false, not, [], ◌∷◌, Option, Some, None, option_map}
use Rattle.std.specs.Prelude.{IsTrue}
use Rattle.ess_semantics.specs.Lists.{and_then}
use Rattle.ess_semantics.specs.Values.{Text, a_matrix}
use Rattle.ess_semantics.specs.Order.{same_text}
use Rattle.ess_semantics.specs.Names.{Names, look}
use Rattle.ess_semantics.specs.Trees.{Pat, Pats, name_pat, tuple_pat, no_pats, more_pats, Ex, Exs, number_ex, truth_ex, name_ex, node_ex, matrix_ex, comp_ex, cell_ex, seen_ex, no_exs, more_exs, Gens, no_gens, over, from, cond, Dom, Doms, bool_dom, int_dom, name_dom, tuple_dom, record_dom, matrix_dom, set_dom, mset_dom, function_dom, relation_dom, partition_dom, no_doms, more_doms}
use Rattle.ess_semantics.specs.Types.{Ty, Tys, any_ty, bool_ty, int_ty, no_tys, more_tys, compound2, join, or_any, parts_of_ty, type_of_dom, bind_types, bind_all_types}
use Rattle.ess_semantics.specs.OperatorTypes.{member_ty}
use Rattle.ess_semantics.specs.Typing.{type_of, types_under, source_ty}
use Rattle.ess_semantics.specs.NamesAt.{names_behind}
use Rattle.ess_semantics.specs.Substitution.{substitute, substitute_gens, for_name, Binds, BindsAll, NamesAre, NamesAreExs, NamesAreGens, NamesAreDom, NamesAreDoms}
use Rattle.ess_semantics.proofs.Texts.{same_text-equal}
use Rattle.ess_types_laws.proofs.ResolvedTypes.{behind-types}
use Rattle.ess_rules_laws.specs.Listings.{Alternative}
use Rattle.ess_rules_laws.specs.ListedSources.{laid_out, put_listed}
use Rattle.ess_rules_laws.specs.SpliceRules.{append_gens, NamesApart}
use Rattle.ess_rules_laws.proofs.Agreement.{look-itself}
use Rattle.ess_refine_laws.specs.TypesStay.{KeepsType}
use Rattle.ess_refine_types_laws.specs.MarksOfContainers.{UsesNames, AllUseNames, GensUseNames, DomUsesNames, DomsUseNames, IsNewTo}
use Rattle.ess_refine_types_laws.proofs.MarksBehind.{fewer}
use Rattle.ess_rules_types_laws.specs.PutTypes.{TablesAre, AllTablesAre, GensTablesAre, DomTablesAre, DomsTablesAre, IsSteady}
use Rattle.ess_rules_types_laws.specs.TypesOfSources.{IsAlike, TablesFit, PutFits}
use Rattle.ess_rules_types_laws.proofs.PutTypes.{Fits, type-put, gens-put, look-past}

-- ---- names and tables that a tree has

module _ (s b w v : Text → Bool) (named : (a : Text) → IsTrue (s a) → IsTrue (v a)) (tabled : (a : Text) → IsTrue (w a) →
    IsTrue (v a)) where
  mutual
    pub uses : (e : Ex) → NamesAre s b e → TablesAre w e → UsesNames v e
    uses (number_ex n) h k = tt
    uses (truth_ex c) h k = tt
    uses (name_ex a) h k = named a h
    uses (node_ex c op es) h k = all-use es h k
    uses (matrix_ex es d) h k = (all-use es h.0 k.0, dom-uses d h.1 k.1)
    uses (comp_ex e gs) h k = (uses e h.0 k.1, gens-use gs h.1 k.0)
    uses (cell_ex c n es) h k = (tabled n k.0, all-use es h k.1)
    uses (seen_ex r d ns es) h k = (dom-uses d h.0 k.0, all-use es h.1 k.1)

    pub all-use : (es : Exs) → NamesAreExs s b es → AllTablesAre w es → AllUseNames v es
    all-use no_exs h k = tt
    all-use (more_exs e es) h k = (uses e h.0 k.0, all-use es h.1 k.1)

    gens-use : (gs : Gens) → NamesAreGens s b gs → GensTablesAre w gs → GensUseNames v gs
    gens-use no_gens h k = tt
    gens-use (over p d gs) h k = (dom-uses d h.1 k.0, gens-use gs h.2 k.1)
    gens-use (from p e gs) h k = (uses e h.1 k.0, gens-use gs h.2 k.1)
    gens-use (cond e gs) h k = (uses e h.0 k.0, gens-use gs h.1 k.1)

    dom-uses : (d : Dom) → NamesAreDom s b d → DomTablesAre w d → DomUsesNames v d
    dom-uses bool_dom h k = tt
    dom-uses (int_dom rs es) h k = all-use es h k
    dom-uses (name_dom a) h k = tt
    dom-uses (tuple_dom ds) h k = doms-use ds h k
    dom-uses (record_dom fs ds) h k = doms-use ds h k
    dom-uses (matrix_dom is d) h k = (doms-use is h.0 k.0, dom-uses d h.1 k.1)
    dom-uses (set_dom ms es d) h k = (all-use es h.0 k.0, dom-uses d h.1 k.1)
    dom-uses (mset_dom ms es d) h k = (all-use es h.0 k.0, dom-uses d h.1 k.1)
    dom-uses (function_dom ms es d c) h k = (all-use es h.0 k.0, dom-uses d h.1 k.1, dom-uses c h.2 k.2)
    dom-uses (relation_dom ms es ds) h k = (all-use es h.0 k.0, doms-use ds h.1 k.1)
    dom-uses (partition_dom ms es d) h k = (all-use es h.0 k.0, dom-uses d h.1 k.1)

    doms-use : (ds : Doms) → NamesAreDoms s b ds → DomsTablesAre w ds → DomsUseNames v ds
    doms-use no_doms h k = tt
    doms-use (more_doms d ds) h k = (dom-uses d h.0 k.0, doms-use ds h.1 k.1)

-- ---- generators one list behind the other

then-then : {A B C : Type 0} (o : Option A) (F : A → Option C) (G : A → Option B) (H : B → Option C) →
    ((m : A) → F m ≡ and_then (G m) H) → and_then o F ≡ and_then (and_then o G) H
then-then None F G H h = refl
then-then (Some m) F G H h = h m

pub append-types : (ks hs : Gens) (g : Names Ty) → types_under (append_gens ks hs) g ≡ and_then (types_under ks g) (types_under hs)
append-types no_gens hs g = refl
append-types (over p d ks) hs g = append-types ks hs (bind_types p (type_of_dom d) g)
append-types (from p e ks) hs g =
    then-then (and_then (type_of e g) member_ty) (λ m. types_under (append_gens ks hs) (bind_types p m g))
    (λ m. types_under ks (bind_types p m g)) (types_under hs) (λ m. append-types ks hs (bind_types p m g))
append-types (cond e ks) hs g =
    then-then (type_of e g) (λ t. and_then (join t bool_ty) (λ u. types_under (append_gens ks hs) g))
    (λ t. and_then (join t bool_ty) (λ u. types_under ks g)) (types_under hs)
    (λ t. then-then (join t bool_ty) (λ u. types_under (append_gens ks hs) g) (λ u. types_under ks g) (types_under hs)
    (λ u. append-types ks hs g))

-- Names that aren't bound have the types that they had.
module _ (r : Text → Bool) where
  unbound : (a c : Text) → IsTrue (r a) → r c ≡ false → same_text a c ≡ false
  unbound a c h n = go (same_text a c) refl
    where
      go : (b : Bool) → same_text a c ≡ b → b ≡ false
      go false q = refl
      go true q = let i : r a ≡ r c = ap r (same_text-equal a c q) in let j : true ≡ false = sym h ∙ i ∙ n in j

  mutual
    pub past-pattern : (p : Pat) (v : Ty) (g : Names Ty) (c : Text) → Binds r p → r c ≡ false → look (bind_types p v g) c ≡ look g c
    past-pattern (name_pat a) v g c h n = look-past a c v g (unbound a c h n)
    past-pattern (tuple_pat ps) v g c h n = past-patterns ps (parts_of_ty v) g c h n

    past-patterns : (ps : Pats) (ts : Tys) (g : Names Ty) (c : Text) → BindsAll r ps → r c ≡ false →
        look (bind_all_types ps ts g) c ≡ look g c
    past-patterns no_pats ts g c h n = refl
    past-patterns (more_pats p ps) no_tys g c h n =
        past-patterns ps no_tys (bind_types p any_ty g) c h.1 n ∙ past-pattern p any_ty g c h.0 n
    past-patterns (more_pats p ps) (more_tys v ts) g c h n =
        past-patterns ps ts (bind_types p v g) c h.1 n ∙ past-pattern p v g c h.0 n

  pub past-gens : (u : Text → Bool) (gs : Gens) (g : Names Ty) (c : Text) → NamesAreGens u r gs → r c ≡ false →
      look (names_behind gs g) c ≡ look g c
  past-gens u no_gens g c h n = refl
  past-gens u (over p d gs) g c h n =
      past-gens u gs (bind_types p (type_of_dom d) g) c h.2 n ∙ past-pattern p (type_of_dom d) g c h.0 n
  past-gens u (from p e gs) g c h n =
      past-gens u gs (bind_types p (source_ty e g) g) c h.2 n ∙ past-pattern p (source_ty e g) g c h.0 n
  past-gens u (cond e gs) g c h n = past-gens u gs g c h.1 n

-- ---- the comprehension

-- A comprehension over a source.
pub source-is : (o : Option Ty) (F : Ty → Option (Names Ty)) (L : Names Ty → Option Ty) (v : Ty) →
    and_then (and_then o F) L ≡ Some v → (m : Ty) × (o ≡ Some m) × (and_then (F m) L ≡ Some v)
source-is None F L v q = (any_ty, cc, cc)
source-is (Some m) F L v q = (m, refl, q)

-- The types behind an alternative's generators, and that of its item.
pub laid-is : (o : Option (Names Ty)) (F : Names Ty → Option Ty) (m : Ty) →
    and_then (and_then o (λ h. option_map (compound2 a_matrix int_ty) (F h))) member_ty ≡ Some m →
    (k : Names Ty) × (o ≡ Some k) × (F k ≡ Some m)
laid-is None F m q = ([], cc, cc)
laid-is (Some k) F m q = (k, refl, go (F k) q)
  where
    go : (p : Option Ty) → and_then (option_map (compound2 a_matrix int_ty) p) member_ty ≡ Some m → p ≡ Some m
    go None q = cc
    go (Some t) q = q

not-no : (b : Bool) → IsTrue (not b) → b ≡ false
not-no true h = cc
not-no false h = refl

no-not : (b : Bool) → b ≡ false → IsTrue (not b)
no-not true h = cc
no-not false h = refl

-- What tells names apart, once and for all.
module _ (r s w : Text → Bool) (y : Text) (item : Ex) (sy : IsTrue (s y)) (used : NamesAre s (λ a. true) item) (tabled : TablesAre w item)
    (fit : TablesFit w r s y) where
  pub put-apart : (a : Text) → IsTrue (not (s a)) → same_text y a ≡ false
  put-apart a h = unbound s y a sy (not-no (s a) h)

  pub put-free : (a : Text) → IsTrue (not (s a)) → IsNewTo a item
  put-free a h = uses s (λ c. true) w (λ c. not (same_text a c)) (λ c k. differ c k) (λ c k. differ c (fit c k).1) item used tabled
    where
      differ : (c : Text) → IsTrue (s c) → IsTrue (not (same_text a c))
      differ c k = go (same_text a c) refl
        where
          go : (z : Bool) → same_text a c ≡ z → IsTrue (not z)
          go false q = refl
          go true q = let i : s a ≡ s c = ap s (same_text-equal a c q) in let j : false ≡ true = sym (not-no (s a) h) ∙ i ∙ k in j

  pub put-tables : (a : Text) → IsTrue (w a) → (same_text y a ≡ false) × IsTrue (not (r a))
  put-tables a h = ((fit a h).2, no-not (r a) (fit a h).0)

  -- The types of names under which the item is put.
  pub put-fits : (g : Names Ty) (m : Ty) (ks : Gens) → NamesAreGens (λ a. true) r ks → type_of item (names_behind ks g) ≡ Some m →
      Fits y item (λ a. not (r a)) (λ a. not (s a)) w put-apart (λ a h. fewer (λ c. not (same_text a c)) item (put-free a h)) put-tables
      ((y, m) ∷ g) (names_behind ks g)
  put-fits g m ks k q = record {
    named = q ∙ sym (look-itself y m g);
    others = λ a u n. past-gens r (λ c. true) ks g a k (not-no (r a) u) ∙ sym (look-past y a m g n);
  }

pub listed-type : (g : Names Ty) (y : Text) (t e : Ex) (hs : Gens) (a : Alternative) → PutFits g y t e hs a →
    KeepsType g (comp_ex e (from (name_pat y) t hs)) (put_listed y e hs a)
listed-type g y t e hs a p v q = go p.3 p.4 p.5 p.6 p.7 p.8
  where
    r : Text → Bool
    r = p.0

    s : Text → Bool
    s = p.1

    w : Text → Bool
    w = p.2

    L : Names Ty → Option Ty
    L h = option_map (compound2 a_matrix int_ty) (type_of e h)

    M : Names Ty → Option Ty
    M h = option_map (compound2 a_matrix int_ty) (type_of (substitute (for_name y a.item) e) h)

    go : NamesApart r s (comp_ex e (from (name_pat y) (laid_out a) hs)) → TablesFit w r s y → TablesAre w (comp_ex e hs) →
        TablesAre w a.item → IsSteady (comp_ex e hs) ((y, source_ty t g) ∷ g) → IsAlike g t a → type_of (put_listed y e hs a) g ≡ Some v
    go n f c i z l =
        let d = source-is (and_then (type_of t g) member_ty) (λ m. types_under hs ((y, m) ∷ g)) L v q in
        let m : Ty = d.0 in
        let x = laid-is (types_under a.gens g) (type_of a.item) m (l ∙ d.1) in
        let k : names_behind a.gens g ≡ x.0 = behind-types a.gens g x.0 x.1 in
        let fits = put-fits r s w y a.item n.0 n.1 i f g m a.gens n.2 (ap (type_of a.item) k ∙ x.2) in
        let steady : IsSteady (comp_ex e hs) ((y, m) ∷ g) = subst (λ o. IsSteady (comp_ex e hs) ((y, or_any o) ∷ g)) d.1 z in
        let put = gens-put y a.item (λ c. not (r c)) (λ c. not (s c)) w (put-apart r s w y a.item n.0 n.1 i f)
        (λ c h. fewer (λ j. not (same_text c j)) a.item (put-free r s w y a.item n.0 n.1 i f c h)) (put-tables r s w y a.item n.0 n.1 i f)
        hs ((y, m) ∷ g) (names_behind a.gens g) n.3 c.0 steady.0 fits in
        let body = type-put y a.item (λ c. not (r c)) (λ c. not (s c)) w (put-apart r s w y a.item n.0 n.1 i f)
        (λ c h. fewer (λ j. not (same_text c j)) a.item (put-free r s w y a.item n.0 n.1 i f c h)) (put-tables r s w y a.item n.0 n.1 i f)
        e (names_behind hs ((y, m) ∷ g)) (names_behind (substitute_gens (for_name y a.item) hs) (names_behind a.gens g)) n.4 c.1 steady.1
        put.fits in
        ap (λ o. and_then o M) (append-types a.gens (substitute_gens (for_name y a.item) hs) g)
        ∙ ap (λ o. and_then (and_then o (types_under (substitute_gens (for_name y a.item) hs))) M) (x.1 ∙ ap Some (sym k))
        ∙ put.under M L (ap (option_map (compound2 a_matrix int_ty)) body) ∙ d.2

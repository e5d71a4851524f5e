-- Guarded, a node, a literal, a comprehension and a domain have types where their parts do.
use Rattle.std.proofs.Common.{◌≡◌, refl, sym, ap, ◌∙◌, subst, Bool, true, false, ◌&&◌, not, if◌then◌else◌, List, [], ◌∷◌, ◌++◌, Option, Some, None, option_map, is_some}
use Rattle.ess_semantics.specs.Lists.{and_then, all_some}
use Rattle.ess_semantics.specs.Values.{Text, a_matrix}
use Rattle.ess_semantics.specs.Names.{Names}
use Rattle.ess_semantics.specs.Trees.{Op, Pat, Ends, Mark, Ex, Exs, node_ex, matrix_ex, comp_ex, cell_ex, more_exs, Gens, over, from, cond, Dom, Doms, int_dom, tuple_dom, record_dom, matrix_dom, set_dom, mset_dom, function_dom, relation_dom, partition_dom, more_doms}
use Rattle.ess_semantics.specs.Types.{Ty, bool_ty, int_ty, compound2, is_bool, join_all, or_any, type_of_dom, bind_types}
use Rattle.ess_semantics.specs.OperatorTypes.{member_ty}
use Rattle.ess_semantics.specs.Typing.{statics, type_of, types_of, type_of_node, source_ty}
use Rattle.ess_semantics.specs.NamesAt.{names_behind}
use Rattle.ess_guard_laws.specs.Origins.{Origin, with_any, with_over, known_behind}
use Rattle.ess_guard_laws.specs.Conditions.{chained, matrix_conditions, own}
use Rattle.ess_guard_laws.specs.Guard.{is_plain, connects, own_at, opens, passes, guarded, guarded_all, guarded_gens, guarded_dom, guarded_doms, conditions, conditions_all, conditions_gens, conditions_dom, conditions_doms}
use Rattle.ess_guard_types_laws.specs.HasTypes.{agrees, fits_mark, indexes_items, HasTypes, HaveTypes, GensHaveTypes, AreNumbers, DomHasTypes, DomsHaveTypes}
use Rattle.ess_guard_types_laws.proofs.TypedConditions.{Cond, Conds, both-conds, its-type, comp-type, chained-cond, over-conds, from-conds, given-conds}
use Rattle.ess_guard_types_laws.proofs.TypedLiterals.{matrix-conds}
use Rattle.ess_guard_types_laws.proofs.TypedRows.{own-conds}
use Rattle.ess_guard_types_laws.proofs.FormsStay as F

bool-of : (o : Option Ty) → is_bool o ≡ true → o ≡ Some bool_ty
bool-of (Some bool_ty) h = refl
bool-of None h = cc
bool-of (Some _) h = cc

if-conds : (t : Bool) (cs : List Ex) (g : Names Ty) → Conds cs g → Conds (if t then [] else cs) g
if-conds true cs g p = tt
if-conds false cs g p = p

module _ (natural : Bool) (x y : Text) where
  abbrev G : Names Origin → Ex → Ex
  G = guarded natural x y

  abbrev Gs : Names Origin → Exs → Exs
  Gs = guarded_all natural x y

  abbrev C : Names Origin → Bool → Ex → List Ex
  C = conditions natural x y

  abbrev Cs : Names Origin → Bool → Exs → List Ex
  Cs = conditions_all natural x y

  -- ---- what stays of types

  -- The guarded expression has types, and its own; its conditions do.
  pub record Stays (k : Names Origin) (e : Ex) (g : Names Ty) : Type 0 where
    pub typed : HasTypes (G k e) g
    pub same : type_of (G k e) g ≡ type_of e g
    pub asked : (w : Bool) → Conds (C k w e) g

  -- The same of operands.
  pub record AllStay (k : Names Origin) (es : Exs) (g : Names Ty) : Type 0 where
    pub typed : HaveTypes (Gs k es) g
    pub same : types_of (Gs k es) g ≡ types_of es g
    pub asked : (w : Bool) → Conds (Cs k w es) g

  -- The same of numbers.
  pub record NumbersStay (k : Names Origin) (es : Exs) (g : Names Ty) : Type 0 where
    pub typed : AreNumbers (Gs k es) g
    pub asked : (w : Bool) → Conds (Cs k w es) g

  -- The same of generators.
  pub record GensStay (k : Names Origin) (gs : Gens) (g : Names Ty) : Type 0 where
    pub typed : GensHaveTypes (guarded_gens natural x y k gs) g
    pub behind : names_behind (guarded_gens natural x y k gs) g ≡ names_behind gs g
    pub asked : (ds : List Ex) → Conds ds (names_behind gs g) → Conds (conditions_gens natural x y k gs ds) g

  -- The same of a domain.
  pub record DomStays (k : Names Origin) (d : Dom) (g : Names Ty) : Type 0 where
    pub typed : DomHasTypes (guarded_dom natural x y k d) g
    pub asked : Conds (conditions_dom natural x y k d) g

  -- The same of several domains.
  pub record DomsStay (k : Names Origin) (ds : Doms) (g : Names Ty) : Type 0 where
    pub typed : DomsHaveTypes (guarded_doms natural x y k ds) g
    pub asked : Conds (conditions_doms natural x y k ds) g

  -- ---- nodes

  module _ (k : Names Origin) (op : Op) (es : Exs) (g : Names Ty) (a : AllStay k es g) (n : indexes_items op es ≡ true) where
    node-same : (b : Bool) → type_of (node_ex b op (Gs k es)) g ≡ type_of (node_ex b op es) g
    node-same b = ap (λ ss. type_of_node op ss (types_of (Gs k es) g)) (F.statics-kept natural x y es k) ∙ ap
        (type_of_node op (statics es)) a.same

    asked-at : (w : Bool) → is_some (type_of (node_ex false op es) g) ≡ true → Conds (own_at natural x y k w op (Gs k es)) g
    asked-at w i = if-conds (w && is_plain op) (own k x y op (Gs k es)) g
        (own-conds k x y op (Gs k es) g a.typed (F.indexes-kept natural x y op es k n) (ap is_some (node-same false) ∙ i))

    all-asked : (v w : Bool) → is_some (type_of (node_ex false op es) g) ≡ true → Conds (Cs k v es ++ own_at natural x y k w op (Gs k es)) g
    all-asked v w i = both-conds (Cs k v es) (own_at natural x y k w op (Gs k es)) g (a.asked v) (asked-at w i)

    node-typed : (b : Bool) → fits_mark b (type_of (node_ex b op es) g) ≡ true → HasTypes (node_ex b op (Gs k es)) g
    node-typed b h = (ap (fits_mark b) (node-same b) ∙ h, F.indexes-kept natural x y op es k n, a.typed)

    some-bool : (o : Option Ty) → o ≡ Some bool_ty → is_some o ≡ true
    some-bool o e = ap is_some e

    pub node-stays : (b : Bool) → fits_mark b (type_of (node_ex b op es) g) ≡ true → Stays k (node_ex b op es) g
    node-stays false h = record {
      typed = node-typed false h;
      same = node-same false;
      asked = λ w. if-conds (connects op) (Cs k (passes natural x y w op) es ++ own_at natural x y k w op (Gs k es)) g
          (all-asked (passes natural x y w op) w h);
    }
    node-stays true h = record {
      typed = (let c = chosen (not (connects op)) in c.0);
      same = (let c = chosen (not (connects op)) in c.1);
      asked = λ w. tt;
    }
      where
        e : type_of (node_ex true op es) g ≡ Some bool_ty
        e = bool-of (type_of (node_ex true op es) g) h

        cs : List Ex
        cs = Cs k (opens natural x y op) es ++ own_at natural x y k false op (Gs k es)

        chosen : (t : Bool) → HasTypes (if t then chained cs (node_ex true op (Gs k es)) else node_ex true op (Gs k es)) g
            × (type_of (if t then chained cs (node_ex true op (Gs k es)) else node_ex true op (Gs k es)) g ≡ type_of (node_ex true op es) g)
        chosen false = (node-typed true h, node-same true)
        chosen true =
            let q : Cond (chained cs (node_ex true op (Gs k es))) g = chained-cond cs (node_ex true op (Gs k es)) g
            (all-asked (opens natural x y op) false (some-bool _ e))
            (record { typed = node-typed true h; bool = node-same true ∙ e }) in (q.typed, q.bool ∙ sym e)

  -- ---- cells

  pub cell-stays : (b : Bool) (n : Text) (es : Exs) (k : Names Origin) (g : Names Ty) → AllStay k es g → Stays k (cell_ex b n es) g
  cell-stays false n es k g a = record { typed = a.typed; same = refl; asked = λ w. a.asked false }
  cell-stays true n es k g a =
      let q : Cond (chained (Cs k false es) (cell_ex true n (Gs k es))) g = chained-cond (Cs k false es) (cell_ex true n (Gs k es)) g
      (a.asked false) (record { typed = a.typed; bool = refl }) in record { typed = q.typed; same = q.bool; asked = λ w. tt }

  -- ---- parts together

  pub more-stay : (e : Ex) (es : Exs) (k : Names Origin) (g : Names Ty) → Stays k e g → AllStay k es g → AllStay k (more_exs e es) g
  more-stay e es k g s a = record {
    typed = (s.typed, a.typed);
    same = ap (λ t. t ∷ types_of (Gs k es) g) s.same ∙ ap (λ ts. type_of e g ∷ ts) a.same;
    asked = λ w. both-conds (C k w e) (Cs k w es) g (s.asked w) (a.asked w);
  }

  pub number-stays : (e : Ex) (es : Exs) (k : Names Origin) (g : Names Ty) → agrees (type_of e g) int_ty ≡ true → Stays k e g →
      NumbersStay k es g → NumbersStay k (more_exs e es) g
  number-stays e es k g n s a = record {
    typed = (ap (λ o. agrees o int_ty) s.same ∙ n, s.typed, a.typed);
    asked = λ w. both-conds (C k w e) (Cs k w es) g (s.asked w) (a.asked w);
  }

  pub matrix-stays : (es : Exs) (d : Dom) (k : Names Origin) (g : Names Ty) → is_some (type_of (matrix_ex es d) g) ≡ true → AllStay k es g →
      DomStays k d g → Stays k (matrix_ex es d) g
  matrix-stays es d k g i a s =
      let e : type_of (matrix_ex (Gs k es) (guarded_dom natural x y k d)) g ≡ type_of (matrix_ex es d) g =
      ap (λ os. and_then (all_some os) (λ ts. option_map (compound2 a_matrix (type_of_dom (guarded_dom natural x y k d)))
      (join_all ts))) a.same
      ∙ ap (λ t. and_then (all_some (types_of es g)) (λ ts. option_map (compound2 a_matrix t) (join_all ts)))
      (F.dom-type natural x y d k) in record {
        typed = (ap is_some e ∙ i, a.typed, s.typed);
        same = e;
        asked = λ w. both-conds (Cs k false es) _ g (a.asked false)
            (both-conds (conditions_dom natural x y k d) (matrix_conditions x es (guarded_dom natural x y k d)) g s.asked
            (matrix-conds x es (guarded_dom natural x y k d) g s.typed));
      }

  pub comp-stays : (e : Ex) (gs : Gens) (k : Names Origin) (g : Names Ty) → GensHaveTypes gs g → HasTypes e (names_behind gs g) →
      GensStay k gs g →
      Stays (known_behind gs k) e (names_behind gs g) → Stays k (comp_ex e gs) g
  comp-stays e gs k g h i a s =
      let j : Names Origin = known_behind gs k in
      let t = its-type e (names_behind gs g) i in
      let u : type_of (G j e) (names_behind (guarded_gens natural x y k gs) g) ≡ Some t.0 =
      ap (type_of (G j e)) a.behind ∙ s.same ∙ t.1 in record {
        typed = (a.typed, subst (λ n. HasTypes (G j e) n) (sym a.behind) s.typed);
        same = comp-type (G j e) (guarded_gens natural x y k gs) t.0 g a.typed u ∙ sym (comp-type e gs t.0 g h t.1);
        asked = λ w. a.asked (C j false e) (s.asked false);
      }

  pub over-stays : (p : Pat) (d : Dom) (gs : Gens) (k : Names Origin) (g : Names Ty) → DomStays k d g →
      GensStay (with_over p d k) gs (bind_types p (type_of_dom d) g) → GensStay k (over p d gs) g
  over-stays p d gs k g s a =
      let c : Dom = guarded_dom natural x y k d in
      let e : bind_types p (type_of_dom d) g ≡ bind_types p (type_of_dom c) g = ap (λ t. bind_types p t g)
      (sym (F.dom-type natural x y d k)) in record {
        typed = (s.typed, subst (λ n. GensHaveTypes (guarded_gens natural x y (with_over p d k) gs) n) e a.typed);
        behind = ap (names_behind (guarded_gens natural x y (with_over p d k) gs)) (sym e) ∙ a.behind;
        asked = λ ds q. both-conds (conditions_dom natural x y k d) _ g s.asked
            (over-conds p c (conditions_gens natural x y (with_over p d k) gs ds) g s.typed
            (subst (λ n. Conds (conditions_gens natural x y (with_over p d k) gs ds) n) e (a.asked ds q)));
      }

  pub from-stays : (p : Pat) (f : Ex) (gs : Gens) (k : Names Origin) (g : Names Ty) → is_some (and_then (type_of f g) member_ty) ≡ true →
      Stays k f g → GensStay (with_any p k) gs (bind_types p (source_ty f g) g) → GensStay k (from p f gs) g
  from-stays p f gs k g m s a =
      let e : bind_types p (source_ty f g) g ≡ bind_types p (source_ty (G k f) g) g =
      ap (λ o. bind_types p (or_any (and_then o member_ty)) g) (sym s.same) in
      let n : is_some (and_then (type_of (G k f) g) member_ty) ≡ true = ap (λ o. is_some (and_then o member_ty)) s.same ∙ m in record {
        typed = (n, s.typed, subst (λ z. GensHaveTypes (guarded_gens natural x y (with_any p k) gs) z) e a.typed);
        behind = ap (names_behind (guarded_gens natural x y (with_any p k) gs)) (sym e) ∙ a.behind;
        asked = λ ds q. both-conds (C k false f) _ g (s.asked false)
            (from-conds p (G k f) (conditions_gens natural x y (with_any p k) gs ds) g n s.typed
            (subst (λ z. Conds (conditions_gens natural x y (with_any p k) gs ds) z) e (a.asked ds q)));
      }

  pub cond-stays : (c : Ex) (gs : Gens) (k : Names Origin) (g : Names Ty) → agrees (type_of c g) bool_ty ≡ true → Stays k c g →
      GensStay k gs g →
      GensStay k (cond c gs) g
  cond-stays c gs k g n s a =
      let b : agrees (type_of (G k c) g) bool_ty ≡ true = ap (λ o. agrees o bool_ty) s.same ∙ n in record {
        typed = (b, s.typed, a.typed);
        behind = a.behind;
        asked = λ ds q. given-conds (G k c) (conditions_gens natural x y k gs ds) g s.typed b (a.asked ds q);
      }

  pub range-stays : (rs : List Ends) (es : Exs) (k : Names Origin) (g : Names Ty) → NumbersStay k es g → DomStays k (int_dom rs es) g
  range-stays rs es k g a = record { typed = a.typed; asked = a.asked false }

  pub tuple-stays : (ds : Doms) (k : Names Origin) (g : Names Ty) → DomsStay k ds g → DomStays k (tuple_dom ds) g
  tuple-stays ds k g a = record { typed = a.typed; asked = a.asked }

  pub record-stays : (fs : List Text) (ds : Doms) (k : Names Origin) (g : Names Ty) → DomsStay k ds g → DomStays k (record_dom fs ds) g
  record-stays fs ds k g a = record { typed = a.typed; asked = a.asked }

  pub matrix-dom-stays : (is : Doms) (d : Dom) (k : Names Origin) (g : Names Ty) → DomsStay k is g → DomStays k d g → DomStays k
      (matrix_dom is d) g
  matrix-dom-stays is d k g a s = record { typed = (a.typed, s.typed); asked = both-conds _ _ g a.asked s.asked }

  pub set-stays : (ms : List Mark) (es : Exs) (d : Dom) (k : Names Origin) (g : Names Ty) → NumbersStay k es g → DomStays k d g →
      DomStays k (set_dom ms es d) g
  set-stays ms es d k g a s = record { typed = (a.typed, s.typed); asked = both-conds _ _ g (a.asked false) s.asked }

  pub mset-stays : (ms : List Mark) (es : Exs) (d : Dom) (k : Names Origin) (g : Names Ty) → NumbersStay k es g → DomStays k d g →
      DomStays k (mset_dom ms es d) g
  mset-stays ms es d k g a s = record { typed = (a.typed, s.typed); asked = both-conds _ _ g (a.asked false) s.asked }

  pub function-stays : (ms : List Mark) (es : Exs) (d c : Dom) (k : Names Origin) (g : Names Ty) → NumbersStay k es g → DomStays k d g →
      DomStays k c g → DomStays k (function_dom ms es d c) g
  function-stays ms es d c k g a s t = record {
    typed = (a.typed, s.typed, t.typed);
    asked = both-conds (Cs k false es) _ g (a.asked false) (both-conds _ _ g s.asked t.asked);
  }

  pub relation-stays : (ms : List Mark) (es : Exs) (ds : Doms) (k : Names Origin) (g : Names Ty) → NumbersStay k es g → DomsStay k ds g →
      DomStays k (relation_dom ms es ds) g
  relation-stays ms es ds k g a s = record { typed = (a.typed, s.typed); asked = both-conds _ _ g (a.asked false) s.asked }

  pub partition-stays : (ms : List Mark) (es : Exs) (d : Dom) (k : Names Origin) (g : Names Ty) → NumbersStay k es g → DomStays k d g →
      DomStays k (partition_dom ms es d) g
  partition-stays ms es d k g a s = record { typed = (a.typed, s.typed); asked = both-conds _ _ g (a.asked false) s.asked }

  pub more-doms-stay : (d : Dom) (ds : Doms) (k : Names Origin) (g : Names Ty) → DomStays k d g → DomsStay k ds g → DomsStay k
      (more_doms d ds) g
  more-doms-stay d ds k g s a = record { typed = (s.typed, a.typed); asked = both-conds _ _ g s.asked a.asked }

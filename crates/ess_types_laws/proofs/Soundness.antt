-- Type soundness: under an env that gives names values of their types, a resolved expression has nothing or a value of its
-- type.
use Rattle.std.proofs.Common.{◌≡◌, refl, sym, ap, ◌∙◌, subst, Bool, true, false, ◌||◌, List, [], ◌∷◌, length, nat_eq, Option, Some, None, option_map}
use Rattle.std.specs.List.{list_all}
use Rattle.ess_semantics.specs.Lists.{and_then, all_some}
use Rattle.ess_semantics.specs.Values.{a_matrix, Value, number, truth, of_list, matrix, items_of}
use Rattle.ess_semantics.specs.Names.{Names}
use Rattle.ess_semantics.specs.Trees.{Step, Op, index, is_truth_op, Ex, Exs, number_ex, truth_ex, name_ex, node_ex, matrix_ex, comp_ex, cell_ex, seen_ex, no_exs, more_exs, Gens, no_gens, over, from, cond, Dom}
use Rattle.ess_semantics.specs.Types.{Ty, bool_ty, int_ty, compound2, is_bool, or_any, join, join_all, type_of_dom, bind_types}
use Rattle.ess_semantics.specs.OperatorTypes.{member_ty, type_of_op}
use Rattle.ess_semantics.specs.Typing.{Static, static, statics, path_ty, type_of_node, type_of, types_of, types_under, source_ty}
use Rattle.ess_semantics.specs.Resolving.{steps_from, resolve, resolve_exs}
use Rattle.ess_semantics.specs.Kinds.{is_atom}
use Rattle.ess_semantics.specs.Domains.{members}
use Rattle.ess_semantics.specs.Tables.{Table}
use Rattle.ess_semantics.specs.Operators.{as_truth, list_value, path_value, value_of_op, value_of_node, false_where_undefined}
use Rattle.ess_semantics.specs.NamesAt.{names_behind}
use Rattle.ess_semantics.specs.Meaning.{Env, TypeEntry, bind, with_pat, collect, meaning, meanings, items_under, domain_of, members_in, matrix_value}
use Rattle.ess_semantics.specs.TypeMembers.{is_of}
use Rattle.ess_semantics.proofs.Tests.{and-both}
use Rattle.ess_types_laws.specs.WellBound.{tuples_have_parts, BoundWith, AreBoundWith, GensBoundWith}
use Rattle.ess_types_laws.proofs.ResolvedTypes.{gens_resolved, comp-resolved, behind-types}
use Rattle.ess_types_laws.proofs.Joins.{Of, OfEach, all-joined}
use Rattle.ess_types_laws.proofs.Bound.{ValuesFit, bind-fits}
use Rattle.ess_types_laws.proofs.Members.{members-fit}
use Rattle.ess_types_laws.proofs.Items.{items-fit, matrix-fits}
use Rattle.ess_types_laws.proofs.Indices.{path-fits}
use Rattle.ess_types_laws.proofs.Literals.{list-fits}
use Rattle.ess_types_laws.proofs.OperatorValues.{op-fits}
use Rattle.ess_types_laws.proofs.SoundParts.{some-then, some-map, all-length, meanings-length, truth-bool, plain-value, is-bool, atom-domain, members-rise, collect-fits, where-fits, when-some}

-- ---- nodes

-- Whether an operator is an index.
abbrev is_index : Op → Bool
is_index (index qs) = true
is_index op = false

-- The operands of a resolved node are resolved, and its mark is that of its type.
node-parts : (b : Bool) (op : Op) (es : Exs) (g : Names Ty) → is_index op ≡ false → resolve (node_ex b op es) g ≡ node_ex b op es →
    (b ≡ (is_truth_op op || is_bool (type_of (node_ex b op es) g))) × (resolve_exs es g ≡ es)
node-parts b (index qs) es g n r = cc
node-parts b op es g n r = (cc, cc)

plain-type : (op : Op) (ss : List Static) (us : List (Option Ty)) → is_index op ≡ false →
    type_of_node op ss us ≡ and_then (all_some us) (type_of_op op)
plain-type (index qs) ss us n = cc
plain-type op ss us n = refl

index-parts : (b : Bool) (qs : List Step) (e : Ex) (es : Exs) (g : Names Ty) →
    resolve (node_ex b (index qs) (more_exs e es)) g ≡ node_ex b (index qs) (more_exs e es) →
    (b ≡ is_bool (type_of (node_ex b (index qs) (more_exs e es)) g)) × (steps_from (type_of e g) qs (statics es) (types_of es g) ≡ qs) ×
    (resolve e g ≡ e)
index-parts b qs e es g r = (cc, cc, cc)

module _ (pl : Bool) (ts : List TypeEntry) where
  -- A Boolean has a truth value.
  boolean-fits : (b : Bool) (o : Option Value) (t : Ty) (v : Value) → b ≡ true → bool_ty ≡ t → false_where_undefined b o ≡ Some v →
      Of pl ts t v
  boolean-fits true o t v q z e = let y : truth (as_truth o) ≡ v = cc in
      subst (λ c. Of pl ts c v) z (subst (λ c. Of pl ts bool_ty c) y refl)
  boolean-fits false o t v q z e = cc

  node-fits : (b : Bool) (op : Op) (us : List (Option Ty)) (os : List (Option Value)) (t : Ty) (v : Value) →
      b ≡ (is_truth_op op || is_bool (Some t)) → and_then (all_some us) (type_of_op op) ≡ Some t →
      tuples_have_parts op us ≡ true →
      ((xs : List Ty) (vs : List Value) → all_some us ≡ Some xs → all_some os ≡ Some vs → OfEach pl ts xs vs) →
      false_where_undefined b (value_of_node op os) ≡ Some v → Of pl ts t v
  node-fits b op us os t v m e r f h = go (is_truth_op op) (is_bool (Some t)) refl refl
    where
      go : (x y : Bool) → is_truth_op op ≡ x → is_bool (Some t) ≡ y → Of pl ts t v
      go true y p q =
          let a = some-then (all_some us) (type_of_op op) t e in
          boolean-fits b (value_of_node op os) t v (m ∙ ap (λ z. z || is_bool (Some t)) p) (truth-bool op a.0 t p a.2) h
      go false true p q = boolean-fits b (value_of_node op os) t v (m ∙ ap (λ z. z || is_bool (Some t)) p ∙ q) (is-bool t q) h
      go false false p q =
          let a = some-then (all_some us) (type_of_op op) t e in
          let n : b ≡ false = m ∙ ap (λ z. z || is_bool (Some t)) p ∙ q in
          let k : value_of_node op os ≡ Some v = ap (λ z. false_where_undefined z (value_of_node op os)) (sym n) ∙ h in
          let w = some-then (all_some os) (value_of_op op) v (sym (plain-value op os p) ∙ k) in
          op-fits pl ts op us a.0 w.0 t v a.1 (f a.0 w.0 a.1 w.1) r p a.2 w.2

  -- An index, where its first operand has a value of its type.
  index-fits : (b : Bool) (qs : List Step) (ss : List Static) (o : Option Ty) (us : List (Option Ty)) (x : Option Value)
      (os : List (Option Value)) (t : Ty) (v : Value) → b ≡ is_bool (Some t) →
      length os ≡ length us → steps_from o qs ss us ≡ qs → and_then o (λ u. path_ty u qs ss us) ≡ Some t →
      ((u : Ty) (w : Value) → o ≡ Some u → x ≡ Some w → Of pl ts u w) →
      false_where_undefined b (value_of_node (index qs) (x ∷ os)) ≡ Some v → Of pl ts t v
  index-fits b qs ss o us x os t v m n s e f h = go (is_bool (Some t)) refl
    where
      go : (y : Bool) → is_bool (Some t) ≡ y → Of pl ts t v
      go true q = boolean-fits b (value_of_node (index qs) (x ∷ os)) t v (m ∙ q) (is-bool t q) h
      go false q =
          let a = some-then o (λ u. path_ty u qs ss us) t e in
          let k : value_of_node (index qs) (x ∷ os) ≡ Some v = ap (λ z. false_where_undefined z (value_of_node (index qs) (x ∷ os)))
          (sym (m ∙ q)) ∙ h in
          let w = some-then (all_some (x ∷ os)) (value_of_op (index qs)) v k in
          let y = some-then x (λ z. option_map (λ zs. z ∷ zs) (all_some os)) w.0 w.1 in
          let z = some-map (all_some os) (λ zs. y.0 ∷ zs) w.0 y.2 in
          let j : path_value y.0 qs z.0 ≡ Some v = ap (value_of_op (index qs)) z.2 ∙ w.2 in
          path-fits pl ts a.0 t qs ss us y.0 z.0 v (all-length os z.0 z.1 ∙ n) (ap (λ c. steps_from c qs ss us) (sym a.1)
          ∙ s) a.2 (f a.0 y.0 a.1 y.1) j

index-type : (o : Option Ty) (qs : List Step) (s : Static) (ss : List Static) (us : List (Option Ty)) →
    type_of_node (index qs) (s ∷ ss) (o ∷ us) ≡ and_then o (λ t. path_ty t qs ss us)
index-type None qs s ss us = refl
index-type (Some t) qs s ss us = refl

-- ---- matrix literals

matrix-sound : (d : Dom) (env : Env) (us : List (Option Ty)) (os : List (Option Value)) (t : Ty) (v : Value) → is_atom d ≡ true →
    and_then (all_some us) (λ xs. option_map (compound2 a_matrix (type_of_dom d)) (join_all xs)) ≡ Some t →
    ((xs : List Ty) (vs : List Value) → all_some us ≡ Some xs → all_some os ≡ Some vs → OfEach env.positions env.types xs vs) →
    and_then (all_some os) (matrix_value (members_in (domain_of d env))) ≡ Some v → Of env.positions env.types t v
matrix-sound d env us os t v k e f h =
    let a = some-then (all_some us) (λ xs. option_map (compound2 a_matrix (type_of_dom d)) (join_all xs)) t e in
    let j = some-map (join_all a.0) (compound2 a_matrix (type_of_dom d)) t a.2 in
    let b = some-then (all_some os) (matrix_value (members_in (domain_of d env))) v h in
    go j.0 j.2 b.0 (all-joined env.positions env.types a.0 b.0 j.0 j.1 (f a.0 b.0 a.1 b.1)) (members_in (domain_of d env)) refl b.2
  where
    go : (w : Ty) → compound2 a_matrix (type_of_dom d) w ≡ t → (vs : List Value) → list_all (is_of env.positions env.types w) vs ≡ true →
        (o : Option (List Value)) → members_in (domain_of d env) ≡ o →
        matrix_value o vs ≡ Some v → Of env.positions env.types t v
    go w z vs l None q h = cc
    go w z vs l (Some is) q h =
        let n = when-some (nat_eq (length is) (length vs)) (matrix (of_list is) (of_list vs)) v h in
        let c = some-then (domain_of d env) members is q in
        subst (λ x. Of env.positions env.types x v) z (subst (λ y. Of env.positions env.types (compound2 a_matrix (type_of_dom d) w) y) n.1
        (matrix-fits env.positions env.types (type_of_dom d) w is vs (members-rise c.0 is (atom-domain env d c.0 k c.1) c.2) n.0
        (members-fit env d c.0 c.1 is c.2) l))

-- ---- trees

-- The type of what a generator takes from a source, where there is one.
pub source-type : (o : Option Ty) (m : Ty) → o ≡ Some m → or_any o ≡ m
source-type None m e = cc
source-type (Some t) m e = cc

cond-types : (o : Option Ty) (x : Option (Names Ty)) (h : Names Ty) → and_then o (λ t. and_then (join t bool_ty) (λ u. x)) ≡ Some h →
    x ≡ Some h
cond-types None x h e = cc
cond-types (Some t) x h e = go (join t bool_ty) e
  where
    go : (o : Option Ty) → and_then o (λ u. x) ≡ Some h → x ≡ Some h
    go None e = cc
    go (Some u) e = e

module _ (pl : Bool) (ts : List TypeEntry) (cs : Names Table) where
  -- The env with these values of names.
  abbrev pub E : Names Value → Env
  E vals = record { positions = pl; types = ts; vals = vals; cells = cs }

  -- What is asked of cells and views gives them values of their types.
  abbrev pub TablesFit : (Ex → Names Ty → Type 0) → Type 0
  TablesFit V = (e : Ex) (g : Names Ty) → V e g → (vals : Names Value) → ValuesFit pl ts g vals → (t : Ty) → type_of e g ≡ Some t →
      (v : Value) → meaning e (E vals) ≡ Some v → Of pl ts t v

module _ (pl : Bool) (ts : List TypeEntry) (cs : Names Table) (V : Ex → Names Ty → Type 0) (tables : TablesFit pl ts cs V) where
  abbrev En : Names Value → Env
  En = E pl ts cs

  mutual
    -- A resolved expression that has a type has nothing or a value of it.
    pub sound : (e : Ex) (g : Names Ty) (vals : Names Value) → resolve e g ≡ e → BoundWith V e g → ValuesFit pl ts g vals → (t : Ty) →
        type_of e g ≡ Some t → (v : Value) → meaning e (En vals) ≡ Some v → Of pl ts t v
    sound (number_ex n) g vals r w f t e v h = let q : int_ty ≡ t = cc in let y : number n ≡ v = cc in
        subst (λ c. Of pl ts c v) q (subst (λ c. Of pl ts int_ty c) y refl)
    sound (truth_ex b) g vals r w f t e v h = let q : bool_ty ≡ t = cc in let y : truth b ≡ v = cc in
        subst (λ c. Of pl ts c v) q (subst (λ c. Of pl ts bool_ty c) y refl)
    sound (name_ex a) g vals r w f t e v h = f a t v e h
    sound (node_ex b (index qs) no_exs) g vals r w f t e v h = cc
    sound (node_ex b (index qs) (more_exs x es)) g vals r w f t e v h =
        let q = index-parts b qs x es g r in
        index-fits pl ts b qs (statics es) (type_of x g) (types_of es g) (meaning x (En vals)) (meanings es (En vals)) t v (q.0
        ∙ ap is_bool e) (meanings-length es g (En vals)) q.1
        (sym (index-type (type_of x g) qs (static x) (statics es) (types_of es g)) ∙ e) (λ u y c d. sound x g vals q.2 w f u c y d) h
    sound (node_ex b op es) g vals r w f t e v h =
        let q = node-parts b op es g refl r in
        node-fits pl ts b op (types_of es g) (meanings es (En vals)) t v (q.0
        ∙ ap (λ c. is_truth_op op || is_bool c) e) (sym (plain-type op (statics es) (types_of es g) refl) ∙ e) w.0
        (λ xs vs c d. sounds es g vals q.1 w.1 f xs c vs d) h
    sound (matrix_ex es d) g vals r w f t e v h =
        let q : resolve_exs es g ≡ es = cc in
        matrix-sound d (En vals) (types_of es g) (meanings es (En vals)) t v w.0 e (λ xs vs c y. sounds es g vals q w.1 f xs c vs y) h
    sound (comp_ex x gs) g vals r w f t e v h =
        let p : comp_ex (resolve x (names_behind gs g)) (gens_resolved gs g) ≡ comp_ex x gs = sym (comp-resolved x gs g) ∙ r in
        let px : resolve x (names_behind gs g) ≡ x = cc in
        let pg : gens_resolved gs g ≡ gs = cc in
        let a = some-then (types_under gs g) (λ k. option_map (compound2 a_matrix int_ty) (type_of x k)) t e in
        let b = some-map (type_of x a.0) (compound2 a_matrix int_ty) t a.2 in
        let k : type_of x (names_behind gs g) ≡ Some b.0 = ap (type_of x) (behind-types gs g a.0 a.1) ∙ b.1 in
        let c = some-map (items_under gs (En vals) (λ here. option_map (λ y. y ∷ []) (meaning x here))) list_value v h in
        subst (λ z. Of pl ts z v) b.2 (subst (λ z. Of pl ts (compound2 a_matrix int_ty b.0) z) c.2
        (list-fits pl ts b.0 c.0
        (items-sound gs g vals (is_of pl ts b.0) (λ here. option_map (λ y. y ∷ []) (meaning x here)) pg w.0 a.0 a.1 f
        (λ vals' f' ys m. let n = some-map (meaning x (En vals')) (λ y. y ∷ []) ys m in
        subst (λ l. list_all (is_of pl ts b.0) l ≡ true) n.2
        (and-both (is_of pl ts b.0 n.0) true (sound x (names_behind gs g) vals' px w.1 f' b.0 k n.0 n.1) refl))
        c.0 c.1)))
    sound (cell_ex b n es) g vals r w f t e v h = tables (cell_ex b n es) g w vals f t e v h
    sound (seen_ex rep d ns es) g vals r w f t e v h = tables (seen_ex rep d ns es) g w vals f t e v h

    -- The same of operands.
    pub sounds : (es : Exs) (g : Names Ty) (vals : Names Value) → resolve_exs es g ≡ es → AreBoundWith V es g → ValuesFit pl ts g vals →
        (xs : List Ty) → all_some (types_of es g) ≡ Some xs → (vs : List Value) →
        all_some (meanings es (En vals)) ≡ Some vs → OfEach pl ts xs vs
    sounds no_exs g vals r w f xs e vs h = let q : [] ≡ xs = cc in let y : [] ≡ vs = cc in
        subst (λ c. OfEach pl ts c vs) q (subst (λ c. OfEach pl ts [] c) y tt)
    sounds (more_exs x es) g vals r w f xs e vs h =
        let p : resolve x g ≡ x = cc in
        let q : resolve_exs es g ≡ es = cc in
        let a = some-then (type_of x g) (λ c. option_map (λ cs. c ∷ cs) (all_some (types_of es g))) xs e in
        let b = some-map (all_some (types_of es g)) (λ cs. a.0 ∷ cs) xs a.2 in
        let c = some-then (meaning x (En vals)) (λ y. option_map (λ ys. y ∷ ys) (all_some (meanings es (En vals)))) vs h in
        let d = some-map (all_some (meanings es (En vals))) (λ ys. c.0 ∷ ys) vs c.2 in
        subst (λ l. OfEach pl ts l vs) b.2
        (subst (λ l. OfEach pl ts (a.0 ∷ b.0) l) d.2
        (sound x g vals p w.0 f a.0 a.1 c.0 c.1, sounds es g vals q w.1 f b.0 b.1 d.0 d.1))

    -- What generators collect has a property that it has at each binding.
    pub items-sound : (gs : Gens) (g : Names Ty) (vals : Names Value) (k : Value → Bool) (body : Env → Option (List Value)) →
        gens_resolved gs g ≡ gs → GensBoundWith V gs g →
        (h : Names Ty) → types_under gs g ≡ Some h → ValuesFit pl ts g vals →
        ((vals' : Names Value) → ValuesFit pl ts (names_behind gs g) vals' → (ys : List Value) → body (En vals') ≡ Some ys →
        list_all k ys ≡ true) →
        (xs : List Value) → items_under gs (En vals) body ≡ Some xs → list_all k xs ≡ true
    items-sound no_gens g vals k body r w h u f b xs e = b vals f xs e
    items-sound (over p d gs) g vals k body r w h u f b xs e =
        let q : gens_resolved gs (bind_types p (type_of_dom d) g) ≡ gs = cc in
        let a = some-then (members_in (domain_of d (En vals))) (λ ms. collect ms (λ m. items_under gs (with_pat p m (En vals)) body)) xs e in
        let c = some-then (domain_of d (En vals)) members a.0 a.1 in
        collect-fits (is_of pl ts (type_of_dom d)) k a.0 (λ m. items_under gs (with_pat p m (En vals)) body) xs
        (members-fit (En vals) d c.0 c.1 a.0 c.2)
        (λ m o ys i. items-sound gs (bind_types p (type_of_dom d) g) (bind p m vals) k body q w.1 h u
        (bind-fits pl ts p (type_of_dom d) m g vals w.0 o f) b ys i) a.2
    items-sound (from p x gs) g vals k body r w h u f b xs e =
        let px : resolve x g ≡ x = cc in
        let q : gens_resolved gs (bind_types p (source_ty x g) g) ≡ gs = cc in
        let a = some-then (and_then (type_of x g) member_ty) (λ t. types_under gs (bind_types p t g)) h u in
        let c = some-then (type_of x g) member_ty a.0 a.1 in
        let z : source_ty x g ≡ a.0 = source-type (and_then (type_of x g) member_ty) a.0 a.1 in
        let y : types_under gs (bind_types p (source_ty x g) g) ≡ Some h = ap (λ t. types_under gs (bind_types p t g)) z ∙ a.2 in
        let s = some-then (meaning x (En vals)) (λ s. collect (items_of s) (λ m. items_under gs (with_pat p m (En vals)) body)) xs e in
        let o : Of pl ts c.0 s.0 = sound x g vals px w.1 f c.0 c.1 s.0 s.1 in
        let l : list_all (is_of pl ts (source_ty x g)) (items_of s.0) ≡ true = subst (λ t. list_all (is_of pl ts t) (items_of s.0) ≡ true)
        (sym z) (items-fit pl ts c.0 a.0 s.0 c.2 o) in
        collect-fits (is_of pl ts (source_ty x g)) k (items_of s.0) (λ m. items_under gs (with_pat p m (En vals)) body) xs l
        (λ m o ys i. items-sound gs (bind_types p (source_ty x g) g) (bind p m vals) k body q w.2 h y
        (bind-fits pl ts p (source_ty x g) m g vals w.0 o f) b ys i) s.2
    items-sound (cond x gs) g vals k body r w h u f b xs e =
        let q : gens_resolved gs g ≡ gs = cc in
        where-fits k (meaning x (En vals)) (items_under gs (En vals) body) xs
        (λ ys i. items-sound gs g vals k body q w.1 h (cond-types (type_of x g) (types_under gs g) h u) f b ys i) e

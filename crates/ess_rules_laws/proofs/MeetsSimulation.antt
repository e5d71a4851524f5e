-- Weakening and substitution keep it that tables meet the structures of a tree: one induction, beside that on meanings.
use Rattle.std.proofs.Common.{◌≡◌, sym, ap, ◌∙◌, subst, Bool, true, false, List, ◌∷◌, if◌then◌else◌}
use Rattle.std.specs.Prelude.{IsTrue}
use Rattle.ess_semantics.specs.Values.{Text, Value}
use Rattle.ess_semantics.specs.Order.{same_text}
use Rattle.ess_semantics.specs.Names.{Names, look}
use Rattle.ess_semantics.specs.Trees.{Ex, Exs, number_ex, truth_ex, name_ex, node_ex, matrix_ex, comp_ex, cell_ex, seen_ex, no_exs, more_exs, Gens, no_gens, over, from, cond, Dom, Doms, bool_dom, int_dom, name_dom, tuple_dom, record_dom, matrix_dom, set_dom, mset_dom, function_dom, relation_dom, partition_dom, no_doms, more_doms}
use Rattle.ess_semantics.specs.Operators.{as_truth}
use Rattle.ess_semantics.specs.Tables.{Table}
use Rattle.ess_semantics.specs.Meaning.{Env, TypeEntry, bind, with_pat, meaning, meanings, domain_of, members_in, indices, tables_in}
use Rattle.ess_semantics.specs.Contexts.{EachOf, EachIn, guards}
use Rattle.ess_semantics.specs.Meets.{Meets, MeetsAll, MeetsGens, MeetsDom, MeetsDoms, tidy_in}
use Rattle.ess_semantics.specs.Substitution.{substitute, substitute_exs, substitute_gens, substitute_dom, substitute_doms, for_name, NamesAre, NamesAreExs, NamesAreGens, NamesAreDom, NamesAreDoms}
use Rattle.ess_rules_laws.proofs.Simulation.{Vals, E, any, bind-r, meaning-sim, meanings-sim, domain-sim, substitute-itself, dom-itself}
use Rattle.ess_rules_laws.proofs.Bindings.{each-of-map, each-in-map, guarded-map}
use Rattle.ess_rules_laws.proofs.Agreement.{AgreeOn, outside, agree-outside, itself-named, itself-bound, Put, put-named, put-bound}

-- f gives an expression for each name, whose structures are met; n holds of the names in use, b of those that are bound;
-- R relates values of names, those of the tree and those of the tree with f put in
module _ (pl : Bool) (ts : List TypeEntry) (cs : Names Table) (f : Text → Ex) (n b : Text → Bool) (R : Vals → Vals → Type 0)
    (at-name : (a : Text) (g h : Vals) → IsTrue (n a) → R g h → meaning (f a) (E pl ts cs h) ≡ look g a)
    (at-bind : (a : Text) (v : Value) (g h : Vals) → IsTrue (b a) → R g h → R ((a, v) ∷ g) ((a, v) ∷ h))
    (at-meets : (a : Text) (g h : Vals) → IsTrue (n a) → R g h → Meets (f a) (E pl ts cs h)) where
  abbrev M : Vals → Env
  M g = E pl ts cs g

  same-meaning : (e : Ex) (g h : Vals) → NamesAre n b e → R g h → meaning (substitute f e) (M h) ≡ meaning e (M g)
  same-meaning = meaning-sim pl ts cs f n b R at-name at-bind

  same-domain : (d : Dom) (g h : Vals) → NamesAreDom n b d → R g h → domain_of (substitute_dom f d) (M h) ≡ domain_of d (M g)
  same-domain = domain-sim pl ts cs f n b R at-name at-bind

  mutual
    -- Where tables meet the structures of a tree, they meet those of the tree with f put in.
    pub meets-sim : (e : Ex) (g h : Vals) → NamesAre n b e → R g h → Meets e (M g) → Meets (substitute f e) (M h)
    meets-sim (number_ex m) g h o s x = tt
    meets-sim (truth_ex m) g h o s x = tt
    meets-sim (name_ex a) g h o s x = at-meets a g h o s
    meets-sim (node_ex q op es) g h o s x = meets-sim-all (guards op) es g h o s x
    meets-sim (matrix_ex es d) g h o s x = (meets-sim-all false es g h o.0 s x.0, meets-sim-dom d g h o.1 s x.1)
    meets-sim (comp_ex e gs) g h o s x = meets-sim-gens gs e g h o.1 s (λ g' h' s' y. meets-sim e g' h' o.0 s' y) x
    meets-sim (cell_ex q c es) g h o s x = meets-sim-all false es g h o s x
    meets-sim (seen_ex r d ns es) g h o s x = (
      ap (λ c. tidy_in r c (tables_in cs ns) (indices (meanings (substitute_exs f es) (M h)))) (same-domain d g h o.0 s)
          ∙ ap (λ i. tidy_in r (domain_of d (M g)) (tables_in cs ns) (indices i)) (meanings-sim pl ts cs f n b R at-name at-bind es g h o.1 s) ∙ x.0,
      meets-sim-dom d g h o.0 s x.1,
      meets-sim-all false es g h o.1 s x.2,
    )

    -- The same of operands.
    pub meets-sim-all : (q : Bool) (es : Exs) (g h : Vals) → NamesAreExs n b es → R g h → MeetsAll q es (M g) → MeetsAll q (substitute_exs f es) (M h)
    meets-sim-all q no_exs g h o s x = tt
    meets-sim-all q (more_exs e es) g h o s x =
        (meets-sim e g h o.0 s x.0, guarded-map q (meaning e (M g)) (meaning (substitute f e) (M h)) _ _ (same-meaning e g h o.0 s) (λ y. meets-sim-all false es g h o.1 s y) x.1)

    -- The same of generators, where it holds of what stands behind them.
    pub meets-sim-gens : (gs : Gens) (e : Ex) (g h : Vals) → NamesAreGens n b gs → R g h → ((g' h' : Vals) → R g' h' → Meets e (M g') → Meets (substitute f e) (M h')) →
        MeetsGens gs (M g) (λ here. Meets e here) → MeetsGens (substitute_gens f gs) (M h) (λ here. Meets (substitute f e) here)
    meets-sim-gens no_gens e g h o s k x = k g h s x
    meets-sim-gens (over p d gs) e g h o s k x = (
      meets-sim-dom d g h o.1 s x.0,
      each-of-map (members_in (domain_of (substitute_dom f d) (M h))) _ _ (λ v y. meets-sim-gens gs e (bind p v g) (bind p v h) o.2 (bind-r pl ts cs f n b R at-name at-bind p v g h o.0 s) k y)
          (subst (λ c. EachOf (members_in c) (λ v. MeetsGens gs (with_pat p v (M g)) (λ here. Meets e here))) (sym (same-domain d g h o.1 s)) x.1),
    )
    meets-sim-gens (from p e' gs) e g h o s k x = (
      meets-sim e' g h o.1 s x.0,
      each-in-map (meaning (substitute f e') (M h)) _ _ (λ v y. meets-sim-gens gs e (bind p v g) (bind p v h) o.2 (bind-r pl ts cs f n b R at-name at-bind p v g h o.0 s) k y)
          (subst (λ c. EachIn c (λ v. MeetsGens gs (with_pat p v (M g)) (λ here. Meets e here))) (sym (same-meaning e' g h o.1 s)) x.1),
    )
    meets-sim-gens (cond e' gs) e g h o s k x =
        (meets-sim e' g h o.0 s x.0, λ t. meets-sim-gens gs e g h o.1 s k (x.1 (ap as_truth (sym (same-meaning e' g h o.0 s)) ∙ t)))

    -- The same of a domain.
    pub meets-sim-dom : (d : Dom) (g h : Vals) → NamesAreDom n b d → R g h → MeetsDom d (M g) → MeetsDom (substitute_dom f d) (M h)
    meets-sim-dom bool_dom g h o s x = tt
    meets-sim-dom (int_dom rs es) g h o s x = meets-sim-all false es g h o s x
    meets-sim-dom (name_dom a) g h o s x = tt
    meets-sim-dom (tuple_dom ds) g h o s x = meets-sim-doms ds g h o s x
    meets-sim-dom (record_dom fs ds) g h o s x = meets-sim-doms ds g h o s x
    meets-sim-dom (matrix_dom is d) g h o s x = (meets-sim-doms is g h o.0 s x.0, meets-sim-dom d g h o.1 s x.1)
    meets-sim-dom (set_dom ms es d) g h o s x = (meets-sim-all false es g h o.0 s x.0, meets-sim-dom d g h o.1 s x.1)
    meets-sim-dom (mset_dom ms es d) g h o s x = (meets-sim-all false es g h o.0 s x.0, meets-sim-dom d g h o.1 s x.1)
    meets-sim-dom (function_dom ms es d c) g h o s x = (meets-sim-all false es g h o.0 s x.0, meets-sim-dom d g h o.1 s x.1, meets-sim-dom c g h o.2 s x.2)
    meets-sim-dom (relation_dom ms es ds) g h o s x = (meets-sim-all false es g h o.0 s x.0, meets-sim-doms ds g h o.1 s x.1)
    meets-sim-dom (partition_dom ms es d) g h o s x = (meets-sim-all false es g h o.0 s x.0, meets-sim-dom d g h o.1 s x.1)

    -- The same of several domains.
    pub meets-sim-doms : (ds : Doms) (g h : Vals) → NamesAreDoms n b ds → R g h → MeetsDoms ds (M g) → MeetsDoms (substitute_doms f ds) (M h)
    meets-sim-doms no_doms g h o s x = tt
    meets-sim-doms (more_doms d ds) g h o s x = (meets-sim-dom d g h o.0 s x.0, meets-sim-doms ds g h o.1 s x.1)

-- ---- weakening

module _ (pl : Bool) (ts : List TypeEntry) (cs : Names Table) where
  -- Where values agree on the names of a tree, the structures stay met.
  pub meets-agree : (n : Text → Bool) (e : Ex) (g h : Vals) → NamesAre n any e → AgreeOn n g h → Meets e (E pl ts cs g) → Meets e (E pl ts cs h)
  meets-agree n e g h o s m = subst (λ x. Meets x (E pl ts cs h)) (substitute-itself e)
      (meets-sim pl ts cs name_ex n any (AgreeOn n) (itself-named pl ts cs n) (itself-bound pl ts cs n) (λ a g h o s. tt) e g h o s m)

  -- The same of a domain.
  pub meets-agree-dom : (n : Text → Bool) (d : Dom) (g h : Vals) → NamesAreDom n any d → AgreeOn n g h → MeetsDom d (E pl ts cs g) → MeetsDom d (E pl ts cs h)
  meets-agree-dom n d g h o s m = subst (λ x. MeetsDom x (E pl ts cs h)) (dom-itself d)
      (meets-sim-dom pl ts cs name_ex n any (AgreeOn n) (itself-named pl ts cs n) (itself-bound pl ts cs n) (λ a g h o s. tt) d g h o s m)

  -- ---- substitution of w for x, where x and the names of w are in s, and the tree binds no name in s

  module _ (s : Text → Bool) (x : Text) (w : Ex) (here : IsTrue (s x)) (scoped : NamesAre s any w) where
    -- As `Put`, and the structures of w are met.
    abbrev pub PutMeets : Vals → Vals → Type 0
    PutMeets g h = Put pl ts cs s x w here scoped g h × Meets w (E pl ts cs h)

    bound : (a : Text) (v : Value) (g h : Vals) → IsTrue (outside s a) → PutMeets g h → PutMeets ((a, v) ∷ g) ((a, v) ∷ h)
    bound a v g h o p = (put-bound pl ts cs s x w here scoped a v g h o p.0, meets-agree s w h ((a, v) ∷ h) scoped (agree-outside s a v h o) p.1)

    name-meets : (a : Text) (g h : Vals) → IsTrue (any a) → PutMeets g h → Meets (for_name x w a) (E pl ts cs h)
    name-meets a g h o p = go (same_text x a)
      where
        go : (b : Bool) → Meets (if b then w else name_ex a) (E pl ts cs h)
        go true = p.1
        go false = tt

    -- With w put for x the structures stay met.
    pub meets-put : (e : Ex) (g h : Vals) → NamesAre any (outside s) e → PutMeets g h → Meets e (E pl ts cs g) → Meets (substitute (for_name x w) e) (E pl ts cs h)
    meets-put = meets-sim pl ts cs (for_name x w) any (outside s) PutMeets (λ a g h o p. put-named pl ts cs s x w here scoped a g h o p.0) bound name-meets

    -- The same of generators and of what stands behind them.
    pub meets-put-gens : (gs : Gens) (e : Ex) (g h : Vals) → NamesAreGens any (outside s) gs → NamesAre any (outside s) e → PutMeets g h →
        MeetsGens gs (E pl ts cs g) (λ here. Meets e here) → MeetsGens (substitute_gens (for_name x w) gs) (E pl ts cs h) (λ here. Meets (substitute (for_name x w) e) here)
    meets-put-gens gs e g h o o' p = meets-sim-gens pl ts cs (for_name x w) any (outside s) PutMeets (λ a g h o p. put-named pl ts cs s x w here scoped a g h o p.0) bound name-meets gs e g h o p
        (λ g' h' p' m. meets-put e g' h' o' p' m)

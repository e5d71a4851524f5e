-- What a cell, a literal and a find of a specification of sets have as their values.
use Rattle.std.proofs.Common.{◌≡◌, refl, sym, ap, ◌∙◌, subst, ℕ, Bool, true, false, if◌then◌else◌, List, [], ◌∷◌, pos, ◌⊎◌, inl, inr, Some, option_map, codes}
use Rattle.ess_semantics.specs.Lists.{or_default}
use Rattle.ess_semantics.specs.Values.{Text, Value, number, truth, item, items_of, node}
use Rattle.ess_semantics.specs.Order.{same_text}
use Rattle.ess_semantics.specs.Names.{Names, look, is_among}
use Rattle.ess_semantics.specs.Trees.{Dom, Stm, find}
use Rattle.ess_semantics.specs.Domains.{Domain, integers, named, sets, booleans}
use Rattle.ess_semantics.specs.Membership.{member}
use Rattle.ess_semantics.specs.Tables.{Table, Tables, cell_at, code}
use Rattle.ess_semantics.specs.Meaning.{Env, meaning}
use Rattle.ess_semantics.specs.Assignments.{Assignment, value_of, value_if, env_of}
use Rattle.ess_semantics.specs.Parameters.{Param, all_declared}
use Rattle.ess_semantics.proofs.Texts.{same_text-equal, same_text-itself}
use Rattle.conjure_laws.specs.Members.{In}
use Rattle.conjure_laws.specs.Premises.{tables_are}
use Rattle.ess_semantics.specs.Plans.{Plan, value_plan, plans_from, plans, plans_for, givens_side, finds_side}
use Rattle.ess_semantics.specs.ModelTrees.{Model}
use Rattle.ess_semantics.specs.Cells.{cells_of}
use Rattle.ess_semantics.specs.Representations.{value_of_cells}
use Rattle.ess_semantics.specs.Declarations.{declarations}
use Rattle.ess_semantics.specs.Atoms.{IsAtom}
use Rattle.conjure_laws.specs.SetsOfAtoms.{Atom, Lit, Line, range, typed, boolean, num, truth_lit, value_name, enum, given_type, unnamed, set_find, holds_lit, sets_of, lit_ex, spec, TypeKind, Declared, none_declared, after, after_all}
use Rattle.conjure_laws.specs.ModelsOfSets.{no_options, table_of, number_of, model_of}
use Rattle.conjure_laws.proofs.SetScopes.{Fine, prepared-itself}
use Rattle.conjure_laws.proofs.SetFacts.{Facts, AtomFact, At, LitFact, next, step}
use Rattle.conjure_laws.proofs.Occurrence.{IsOf, one-row, occurrence-cell, set-holds-positions}
use Rattle.conjure_laws.proofs.SetPlans.{Occ, dom_at, atom-with, pos_at, atom-of, dom-closed}
use Rattle.conjure_laws.proofs.SetChannels.{occ_name, unfold-find}
use Rattle.ess_semantics.specs.Positions.{domain_with_positions, with_positions}
use Rattle.conjure_laws.proofs.Matching.{Match}
use Rattle.ess_repr_laws.proofs.Chosen.{on}
use Rattle.conjure_laws.proofs.SetsSettled.{facts, value-end}
use Rattle.ess_semantics.specs.Collections.{holds}
use Rattle.conjure_laws.proofs.SetNames.{one-among}

module _ (T : List Line) (ok : Fine none_declared T) where
  abbrev S' : List Stm
  S' = spec T

  abbrev ks : Names TypeKind
  ks = (after_all T none_declared).types

  abbrev vs : Names (Text × ℕ)
  vs = (after_all T none_declared).values

  abbrev Ps : List Plan
  Ps = plans S' no_options

  abbrev E : Model
  E = model_of T

  abbrev Gs : List Plan
  Gs = plans_for givens_side S' no_options

  abbrev Fs : List Plan
  Fs = plans_for finds_side S' no_options

  table-planned : (U : List Line) (declared done : List Text) (x : Text) (d : Dom) → In (find x d) (spec U) → Facts T ok U →
      (A : Atom) × AtomFact T ok A × In (value_plan finds_side x Occ (sets_of A)
      ((table_of (plans_from (spec U) no_options declared done) x, 1) ∷ [])) (plans_from (spec U) no_options declared done)
  table-planned [] declared done x d i f = absurd i
  table-planned (enum t ns ∷ U) declared done x d (inl e) f = cc
  table-planned (enum t ns ∷ U) declared done x d (inr i) f = table-planned U declared done x d i f
  table-planned (unnamed t n ∷ U) declared done x d (inl e) f = cc
  table-planned (unnamed t n ∷ U) declared done x d (inr i) f = table-planned U declared done x d i f
  table-planned (holds_lit l y ∷ U) declared done x d (inl e) f = cc
  table-planned (holds_lit l y ∷ U) declared done x d (inr i) f = table-planned U declared done x d i f.1
  table-planned (given_type t ∷ U) declared done x d (inl e) f = cc
  table-planned (given_type t ∷ U) declared done x d (inr i) f = let r = table-planned U declared _ x d i f in (r.0, r.1, inr r.2)
  table-planned (set_find y B ∷ U) declared done x d i f =
      subst (λ l. (A : Atom) × AtomFact T ok A × In (value_plan finds_side x Occ (sets_of A) ((table_of l x, 1) ∷ [])) l)
      (sym (unfold-find y B U declared done))
      (go (same_text y x) refl i (fact-of B f) (λ i. table-planned U declared (n ∷ done) x d i (later-of B f)))
    where
      n : Text
      n = occ_name y declared done

      first : Plan
      first = value_plan finds_side y Occ (sets_of B) ((n, 1) ∷ [])

      rest : List Plan
      rest = plans_from (spec U) no_options declared (n ∷ done)

      fact-of : (B : Atom) → Facts T ok (set_find y B ∷ U) → AtomFact T ok B
      fact-of B f = f.0

      later-of : (B : Atom) → Facts T ok (set_find y B ∷ U) → Facts T ok U
      later-of B f = f.1

      go : (t : Bool) → same_text y x ≡ t → (find x d ≡ find y (sets_of B)) ⊎ In (find x d) (spec U) → AtomFact T ok B →
          (In (find x d) (spec U) → (A : Atom) × AtomFact T ok A × In (value_plan finds_side x Occ (sets_of A)
          ((table_of rest x, 1) ∷ []))
          rest) →
          (A : Atom) × AtomFact T ok A × In (value_plan finds_side x Occ (sets_of A)
          (((if same_text y x then n else table_of rest x), 1) ∷ [])) (first ∷ rest)
      go true q i b h = (
        B,
        b,
        inl (ap (λ t. value_plan finds_side x Occ (sets_of B) (((if t then n else table_of rest x), 1) ∷ [])) q
            ∙ ap (λ z. value_plan finds_side z Occ (sets_of B) ((n, 1) ∷ [])) (sym (same_text-equal y x q))),
      )
      go false q (inl e) b h = let w : x ≡ y = cc in let z : false ≡ true = sym q ∙ ap (λ z. same_text z x) (sym w)
          ∙ same_text-itself x in
          cc
      go false q (inr i) b h =
          let r = h i in (
            r.0,
            r.1,
            inr (subst (λ t. In (value_plan finds_side x Occ (sets_of r.0) (((if t then n else table_of rest x), 1) ∷ [])) rest)
                (sym q) r.2),
          )

  -- The table of a find is that of its plan.
  pub planned : (x : Text) (d : Dom) → In (find x d) S' →
      (A : Atom) × AtomFact T ok A × In (value_plan finds_side x Occ (sets_of A) ((table_of Ps x, 1) ∷ [])) Ps
  planned x d i = subst (λ l. (A : Atom) × AtomFact T ok A × In
      (value_plan finds_side x Occ (sets_of A) ((
        table_of (plans_from l no_options (all_declared S') (codes "alldifferent_except" ∷ [])) x,
        1,
      ) ∷ [])) (plans_from l no_options (all_declared S') (codes "alldifferent_except" ∷ [])))
      (sym (prepared-itself T)) (table-planned T (all_declared S') _ x d i (facts T ok))

  -- A value of a set's kind has its kind with positions.
  of-positions : (d : Domain) → IsAtom d → (w : Value) → IsOf d w → IsOf (domain_with_positions d) (with_positions w)
  of-positions booleans a (truth b) o = tt
  of-positions (integers ss) a (number n) o = tt
  of-positions (named t n) a (item u k) o = tt
  of-positions booleans a (number n) o = absurd o
  of-positions booleans a (item t k) o = absurd o
  of-positions booleans a (node k xs) o = absurd o
  of-positions (integers ss) a (truth b) o = absurd o
  of-positions (integers ss) a (item t k) o = absurd o
  of-positions (integers ss) a (node k xs) o = absurd o
  of-positions (named t n) a (truth b) o = absurd o
  of-positions (named t n) a (number k) o = absurd o
  of-positions (named t n) a (node k xs) o = absurd o
  of-positions _ a w o = absurd a

  -- The cell of a value is true where the value is in the set.
  pub match-cell : (p a : Assignment) (x : Text) (A : Atom) (f : AtomFact T ok A) (n : Text) (ts : Tables)
      (m : Match S' p a x Occ (sets_of A) ((n, 1) ∷ []) ts)
      (w : Value) → IsOf (dom_at T ok p A f) w → (t : Table) × (ts ≡ t ∷ []) ×
      (on (cell_at t (code (with_positions w) ∷ [])) ≡ holds (items_of m.v) w)
  match-cell p a x A f n ts m w o = go m.e (sym (dom-closed T ok p A f) ∙ m.closed) m.are m.stands m.inside
    where
      d : Domain
      d = dom_at T ok p A f

      go : (e : Domain) → Some (sets [] (dom_at T ok p A f)) ≡ Some e →
          tables_are (declarations Occ (domain_with_positions e)) ts ≡ true →
          value_of_cells Occ (domain_with_positions e) (cells_of ts) ≡ Some (with_positions m.v) → member e m.v ≡ true →
          (t : Table) × (ts ≡ t ∷ []) × (on (cell_at t (code (with_positions w) ∷ [])) ≡ holds (items_of m.v) w)
      go e q are st inside =
          let z : e ≡ sets [] (dom_at T ok p A f) = cc in
          let B = subst (λ e. tables_are (declarations Occ (domain_with_positions e)) ts ≡ true) z are in
          let V = subst (λ e. value_of_cells Occ (domain_with_positions e) (cells_of ts) ≡ Some (with_positions m.v)) z st in
          let h = (atom-with T ok p A f).0 in
          let r = one-row (pos_at T ok p A f) h [] ts B in (
            r.t,
            r.is,
            occurrence-cell (pos_at T ok p A f) h [] r.t (with_positions m.v) (with_positions w)
                (one-row (pos_at T ok p A f) h [] (r.t ∷ []) (ap (tables_are (declarations Occ (sets [] (pos_at T ok p A f))))
                (sym r.is)
                ∙ B))
                (ap (λ l. value_of_cells Occ (sets [] (pos_at T ok p A f)) (cells_of l)) (sym r.is) ∙ V)
                (of-positions (dom_at T ok p A f) (atom-of T ok p A f) w o)
                ∙ set-holds-positions (dom_at T ok p A f) (atom-of T ok p A f) [] m.v w (subst (λ e. member e m.v ≡ true) z inside) o,
          )

  -- A literal has a value of the kind of the members, with its number as its code with positions.
  pub number-is : (l : Lit) (A : Atom) (f : AtomFact T ok A) (g : LitFact T ok l A) (p a : Assignment) → Param S' p →
      (w : Value) × IsOf (dom_at T ok p A f) w × (code (with_positions w) ≡ number_of vs l) ×
      (meaning (lit_ex l) (env_of S' p a) ≡ Some w)
  number-is (num k) (range a b) f g p c P = (number k, tt, refl, refl)
  number-is (num k) boolean f g p c P = absurd g
  number-is (num k) (typed t) f g p c P = absurd g
  number-is (truth_lit true) boolean f g p c P = (truth true, tt, refl, refl)
  number-is (truth_lit false) boolean f g p c P = (truth false, tt, refl, refl)
  number-is (truth_lit b) (range c d) f g p e P = absurd g
  number-is (truth_lit b) (typed t) f g p e P = absurd g
  number-is (value_name n) (range a b) f g p c P = absurd g
  number-is (value_name n) boolean f g p c P = absurd g
  number-is (value_name n) (typed t) f g p c P = (
    item t g.0,
    refl,
    ap (λ o. pos (or_default (option_map (λ v. v.1) o) 0)) (sym g.1),
    g.2 p c P,
  )

  -- A find's value behind all statements.
  pub find-value : (U : List Line) (c : Declared) (ef : Assignment → Assignment → Env) → At T ok c U ef → (p a : Assignment) →
      Param S' p →
      (x : Text) (d : Dom) (v : Value) → In (find x d) (spec U) → value_of a x ≡ Some v → look (env_of S' p a).vals x ≡ Some v
  find-value [] c ef h p a P x d v i e = absurd i
  find-value (enum t ns ∷ U) c ef h p a P x d v (inl q) e = cc
  find-value (enum t ns ∷ U) c ef h p a P x d v (inr i) e =
      find-value U (after (enum t ns) c) (next T ok (enum t ns) ef) (step T ok (enum t ns) U c ef h) p a P x d v i e
  find-value (given_type t ∷ U) c ef h p a P x d v (inl q) e = cc
  find-value (given_type t ∷ U) c ef h p a P x d v (inr i) e =
      find-value U (after (given_type t) c) (next T ok (given_type t) ef) (step T ok (given_type t) U c ef h) p a P x d v i e
  find-value (unnamed t n ∷ U) c ef h p a P x d v (inl q) e = cc
  find-value (unnamed t n ∷ U) c ef h p a P x d v (inr i) e =
      find-value U (after (unnamed t n) c) (next T ok (unnamed t n) ef) (step T ok (unnamed t n) U c ef h) p a P x d v i e
  find-value (holds_lit l y ∷ U) c ef h p a P x d v (inl q) e = cc
  find-value (holds_lit l y ∷ U) c ef h p a P x d v (inr i) e =
      find-value U c (next T ok (holds_lit l y) ef) (step T ok (holds_lit l y) U c ef h) p a P x d v i e
  find-value (set_find y A ∷ U) c ef h p a P x d v (inr i) e =
      find-value U (after (set_find y A) c) (next T ok (set_find y A) ef) (step T ok (set_find y A) U c ef h) p a P x d v i e
  find-value (set_find y A ∷ U) c ef h p a P x d v (inl q) e =
      let w : x ≡ y = cc in
      value-end T ok U (after (set_find y A) c) (next T ok (set_find y A) ef) (step T ok (set_find y A) U c ef h) p a P x
      (ap (λ z. is_among (z ∷ c.names) x) (sym w) ∙ one-among x c.names)
      ∙ ap (λ o. look (value_if y o (ef p a).vals) x) (ap (value_of a) (sym w) ∙ e)
      ∙ ap (λ b. if b then Some v else look (ef p a).vals x) (ap (λ z. same_text z x) (sym w) ∙ same_text-itself x)

  -- Sets with one domain have one domain of members.
  pub one-atom : (A B : Atom) → sets_of A ≡ sets_of B → A ≡ B
  one-atom (range a b) (range c d) e = let x : a ≡ c = cc in let y : b ≡ d = cc in ap (λ z. range z b) x ∙ ap (range c) y
  one-atom boolean boolean e = refl
  one-atom (typed t) (typed u) e = let x : t ≡ u = cc in ap typed x
  one-atom (range a b) boolean e = cc
  one-atom (range a b) (typed u) e = cc
  one-atom boolean (range c d) e = cc
  one-atom boolean (typed u) e = cc
  one-atom (typed t) (range c d) e = cc
  one-atom (typed t) boolean e = cc

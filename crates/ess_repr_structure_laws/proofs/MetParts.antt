-- Tables meet the structures of what structures are built of: where names with a property are bound, of which each name of a part is one.
use Rattle.std.proofs.Common.{◌≡◌, sym, subst, ℕ, ◌<◌, Bool, true, false, ◌∷◌}
use Rattle.ess_semantics.specs.declared.words.Fun.{Fun}
use Rattle.ess_semantics.specs.Values.{Text, Value}
use Rattle.ess_semantics.specs.Order.{same_text}
use Rattle.ess_semantics.specs.Operators.{as_truth}
use Rattle.ess_semantics.specs.Contexts.{guards}
use Rattle.ess_semantics.specs.Trees.{Op, word, matrix_literal, name_pat, tuple_pat, Ex, Exs, node_ex, comp_ex, no_exs, more_exs, Gens, no_gens, over, from, cond, Dom, Doms, bool_dom, int_dom, name_dom, tuple_dom, record_dom, matrix_dom, set_dom, mset_dom, function_dom, relation_dom, partition_dom, no_doms, more_doms}
use Rattle.ess_semantics.specs.Meaning.{Env, meaning, domain_of, members_in}
use Rattle.ess_semantics.specs.Meets.{Meets, MeetsAll, MeetsGens, MeetsDom, MeetsDoms}
use Rattle.ess_guard_laws.proofs.MetRows.{each-of-always, each-in-always}
use Rattle.ess_repr_laws.specs.StructureParts.{and_ex, implies_ex}
use Rattle.ess_repr_laws.specs.StructureMeaning.{Bound, M}
use Rattle.ess_repr_declare_laws.specs.SizeTerms.{zero_ex, one_ex, unused_name}
use Rattle.ess_repr_structure_laws.proofs.BuiltStructures as B
use Rattle.ess_repr_structure_laws.proofs.BuiltStructures.{BuiltOf}
use Rattle.ess_repr_structure_laws.proofs.BuiltSizes.{SizesOf, bound-has}

-- Tables meet the structures of the expression.
pub record MetIn (e : Ex) (env : Env) : Type 0 where
  pub met : Meets e env

-- Tables meet a conjunction's structures where they meet those of the first part, and where this is true those of the second.
pub and-met : (a b : Ex) (env : Env) → MetIn a env → (as_truth (meaning a env) ≡ true → MetIn b env) → MetIn (and_ex a b) env
and-met a b env p f = record { met = (p.met, λ t. (let m : MetIn b env = f t in m.met, tt)) }

-- So of an implication.
pub implies-met : (a b : Ex) (env : Env) → MetIn a env → MetIn b env → MetIn (implies_ex a b) env
implies-met a b env p f = record { met = (p.met, λ t. (f.met, tt)) }

-- Nothing more is asked of domains.
abbrev pub Any : Dom → Type 0
Any d = Unit {0}

module _ (env0 : Env) (q : ℕ → Text) (q-apart : (m l : ℕ) → l < m → same_text (q m) (q l) ≡ false) (R : Bound env0 q q-apart → Type 0)
    (f : ℕ → ℕ)
    (more : (bs : Bound env0 q q-apart) (k : ℕ) (v : Value) → R bs → R ((f k, v) ∷ bs)) where
  abbrev Names : Type 0
  Names = Bound env0 q q-apart

  abbrev N : Names → Env
  N = M env0 q q-apart

  -- Tables meet the structures of the expression, where names with the property are bound.
  pub record W (e : Ex) : Type 0 where
    pub at : (bs : Names) → R bs → Meets e (N bs)

  -- So they do.
  pub at-names : (e : Ex) → W e → (bs : Names) → R bs → Meets e (N bs)
  at-names e w bs r = w.at bs r

  -- The names of the part.
  abbrev pub own_name : ℕ → Text
  own_name k = q (f k)

  -- Operands.
  pub operands-met : (g : Bool) (es : Exs) → B.AllHave W es → (bs : Names) → R bs → MeetsAll g es (N bs)
  operands-met g no_exs a bs r = tt
  operands-met true (more_exs e es) a bs r = (at-names e a.0 bs r, λ t. operands-met false es a.1 bs r)
  operands-met false (more_exs e es) a bs r = (at-names e a.0 bs r, operands-met false es a.1 bs r)

  mutual
    -- Domains.
    pub dom-met : (d : Dom) → B.DomHas W d → (bs : Names) → R bs → MeetsDom d (N bs)
    dom-met bool_dom h bs r = tt
    dom-met (int_dom rs es) h bs r = operands-met false es h bs r
    dom-met (name_dom a) h bs r = tt
    dom-met (tuple_dom ds) h bs r = doms-met ds h bs r
    dom-met (record_dom fs ds) h bs r = doms-met ds h bs r
    dom-met (matrix_dom is d) h bs r = (doms-met is h.0 bs r, dom-met d h.1 bs r)
    dom-met (set_dom ms es d) h bs r = (operands-met false es h.0 bs r, dom-met d h.1 bs r)
    dom-met (mset_dom ms es d) h bs r = (operands-met false es h.0 bs r, dom-met d h.1 bs r)
    dom-met (function_dom ms es d c) h bs r = (operands-met false es h.0 bs r, dom-met d h.1 bs r, dom-met c h.2 bs r)
    dom-met (relation_dom ms es ds) h bs r = (operands-met false es h.0 bs r, doms-met ds h.1 bs r)
    dom-met (partition_dom ms es d) h bs r = (operands-met false es h.0 bs r, dom-met d h.1 bs r)

    doms-met : (ds : Doms) → B.DomsHave W ds → (bs : Names) → R bs → MeetsDoms ds (N bs)
    doms-met no_doms h bs r = tt
    doms-met (more_doms d ds) h bs r = (dom-met d h.0 bs r, doms-met ds h.1 bs r)

  gens-met : (gs : Gens) (e : Ex) → W e → B.GensHave own_name W (Unit {0}) gs → (bs : Names) → R bs → MeetsGens gs (N bs) (λ here. Meets e here)
  gens-met no_gens e t h bs r = t.at bs r
  gens-met (over (name_pat a) d gs) e t h bs r =
      subst (λ n. MeetsGens (over (name_pat n) d gs) (N bs) (λ here. Meets e here)) (sym h.0.1) (
        dom-met d h.1 bs r,
        each-of-always (members_in (domain_of d (N bs))) _
            (λ v. gens-met gs e t h.2 ((f h.0.0, v) ∷ bs) (more bs h.0.0 v r)),
      )
  gens-met (over (tuple_pat ps) d gs) e t h bs r = absurd h
  gens-met (from (name_pat a) x gs) e t h bs r =
      subst (λ n. MeetsGens (from (name_pat n) x gs) (N bs) (λ here. Meets e here)) (sym h.0.1)
      (at-names x h.1 bs r, each-in-always (meaning x (N bs)) _ (λ v. gens-met gs e t h.2 ((f h.0.0, v) ∷ bs) (more bs h.0.0 v r)))
  gens-met (from (tuple_pat ps) x gs) e t h bs r = absurd h
  gens-met (cond x gs) e t h bs r = (at-names x h.0 bs r, λ w. gens-met gs e t h.1 bs r)

  -- One operand.
  one-met : (b : Bool) (op : Op) (a : Ex) → W a → W (node_ex b op (more_exs a no_exs))
  one-met b op a h = record { at = λ bs r. operands-met (guards op) (more_exs a no_exs) (h, tt) bs r }

  sizes-met : SizesOf W
  sizes-met = record {
    zero = record { at = λ bs r. tt };
    one = record { at = λ bs r. tt };
    two = record { at = λ bs r. tt };
    nodes = λ b op es u a. record { at = λ bs r. operands-met (guards op) es a bs r };
    most = λ a h. one-met false (word Fun.Max) (node_ex false matrix_literal (more_exs zero_ex (more_exs a no_exs)))
        (record {
          at = λ bs r. operands-met (guards matrix_literal) (more_exs zero_ex (more_exs a no_exs))
              (record { at = λ cs s. tt }, (h, tt)) bs r;
        });
    listed = λ d h. one-met false (word Fun.Sum) (comp_ex one_ex (over (name_pat unused_name) d no_gens))
        (record { at = λ bs r. (dom-met d h bs r, each-of-always (members_in (domain_of d (N bs))) _ (λ v. tt)) });
  }

  -- What structures are built of is so.
  pub built-met : BuiltOf own_name W Any (Unit {0}) (Unit {0})
  built-met = record {
    truths = λ b. record { at = λ bs r. tt };
    zero = record { at = λ bs r. tt };
    one = record { at = λ bs r. tt };
    names = λ l. record { at = λ bs r. tt };
    nodes = λ b op es u a. record { at = λ bs r. operands-met (guards op) es a bs r };
    comps = λ e gs t h. record { at = λ bs r. gens-met gs e t h bs r };
    cells = λ b n es a h. record { at = λ bs r. operands-met false es a bs r };
    bounds = λ d g. bound-has W Any sizes-met d g;
    listed = λ a g. let s : SizesOf W = sizes-met in s.listed (name_dom a) tt;
  }

-- Worked examples: what is written for domains and declared tables, and for which nothing is.
use Rattle.std.proofs.Common.{◌≡◌, refl, sym, subst, ◌<◌, ◌^◌, true, false, inl, inr, [], ◌∷◌, Some, None, codes, arith}
use Rattle.std.proofs.Math.Nat.{le_refl}
use Rattle.std.specs.Fmt.{digits}
use Rattle.ess_semantics.specs.declared.words.Op1.{Op1}
use Rattle.ess_semantics.specs.declared.words.Op2.{Op2}
use Rattle.ess_semantics.specs.declared.words.Fun.{Fun}
use Rattle.ess_semantics.specs.Values.{Text}
use Rattle.ess_semantics.specs.Trees.{name_pat, both_ends, Ex, comp_ex, cell_ex, no_exs, more_exs, no_gens, over, bool_dom, int_dom}
use Rattle.ess_semantics.specs.DeclaredTables.{TableDecl}
use Rattle.ess_semantics.specs.Refined.{is_refined}
use Rattle.ess_semantics.proofs.Shorthands.{N, n, es1, un, bi, fn, range, upto, set}
use Rattle.ess_grammar.specs.Models.{Scope, empty_scope, with_given}
use Rattle.eprime_tree.specs.declared.models.PDecl.{PDecl}
use Rattle.eprime_tree.specs.Views.{pure_decl}
use Rattle.eprime_read_convert.specs.declared.lines.Line.{Line}
use Rattle.eprime_read_convert.specs.Lines.{scope_of}
use Rattle.eprime_lowering_laws.specs.Lowerable.{is_lowerable}
use Rattle.conjure_model_laws.specs.ToldApart.{told, told_apart}
use Rattle.ess_model_trees.specs.ess_refine.Chains.{as_it_was}
use Rattle.ess_model_trees.specs.ess_refine.Refinements.{IsGivenUp}
use Rattle.ess_model_trees.specs.Written.{written_for, IsStuckBy, stuck, unlowered}
use Rattle.ess_model_trees.proofs.Rests.{rests-settled}
use Rattle.ess_model_written.specs.Bounds.{BoundPrints, BoundsPrint}
use Rattle.ess_model_written.specs.DeclarationsWritten.{BoundComes, DomIsWritten, DomComes, DeclComes, adding}
use Rattle.ess_model_written.specs.Coming.{DeclsAreWritten, none_written, one_written, OneDeclFails, DeclsCome}

-- ---- bounds that no rule changes, behind the two names that are kept for conditions

-- What is printed where nothing abstract is left, and the reserved names are few.
as_printed : (e new : Ex) → (told e [] 2).1 < 2 ^ 62 → is_refined (told_apart 2 e) ≡ true → new ≡ written_for [] (told_apart 2 e)
    → BoundPrints [] 2 e (Some new)
as_printed e new f h w = (
  (told e [] 2).1,
  record { last = told_apart 2 e; leads = as_it_was (le_refl (told e [] 2).1); few = f; refined = h; writes = w },
)

-- What is written where that is an expression of a model.
as_written : (s : Scope) (e new : Ex) → (told e [] 2).1 < 2 ^ 62 → is_refined (told_apart 2 e) ≡ true
    → new ≡ written_for [] (told_apart 2 e) → is_lowerable s new ≡ true → BoundComes s [] 2 e (Some new)
as_written s e new f h w l = ((as_printed e new f h w).0, ((as_printed e new f h w).1, l))

-- Else nothing is.
not_written : (s : Scope) (e : Ex) → (told e [] 2).1 < 2 ^ 62 → is_refined (told_apart 2 e) ≡ true → is_lowerable s (written_for [] (told_apart 2 e)) ≡ false
    → BoundComes s [] 2 e None
not_written s e f r h = (
  (told e [] 2).1,
  unlowered record {
    new = written_for [] (told_apart 2 e);
    written = record {
      last = told_apart 2 e;
      leads = as_it_was (le_refl (told e [] 2).1);
      few = f;
      refined = r;
      writes = refl;
    };
    not_lowerable = h;
  },
)

-- sum([x | x : int(1..3)])
abbrev total : Text → Ex
total x = fn Fun.Sum (comp_ex (N x) (over (name_pat x) (upto 3) no_gens))

-- |s union t|
abbrev abstract : Ex
abstract = un Op1.Bar (bi Op2.Union (N (codes "s")) (N (codes "t")))

-- no rule fires at any part of it where s and t are only names
none_fires : IsGivenUp abstract 2
unfolding digits
none_fires = record { abstract_left = refl; settled = rests-settled 2 abstract refl }

-- so refining it sticks
sticks : IsStuckBy 2 abstract 2
sticks = record { last = abstract; leads = as_it_was (le_refl 2); few = omega arith; given_up = none_fires }

-- 1 and sum([x | x : int(1..3)]) are printed as 1 and sum([q1 | q1 : int(1..3)])
bounds_print : BoundsPrint [] 2 (more_exs (n 1) (es1 (total (codes "x")))) (Some (more_exs (n 1) (es1 (total (codes "q1")))))
unfolding digits
bounds_print = (
  as_printed (n 1) (n 1) (omega arith) refl refl,
  (as_printed (total (codes "x")) (total (codes "q1")) (omega arith) refl refl, tt),
)

-- nothing is, where no rule fires at one in which something abstract is left
bounds_stick : BoundsPrint [] 2 (more_exs (n 1) (es1 abstract)) None
bounds_stick = inr (inl (2, sticks))

-- ---- domains

-- bool stays
bool_stays : DomComes empty_scope [] 2 bool_dom (Some bool_dom)
bool_stays = tt

-- the forms of ranges stay, and each bound is written
ranges_stay : DomComes empty_scope [] 2 (range (n 1) (total (codes "x"))) (Some (range (n 1) (total (codes "q1"))))
unfolding digits
ranges_stay = (
  refl,
  (
    as_written empty_scope (n 1) (n 1) (omega arith) refl refl refl,
    (as_written empty_scope (total (codes "x")) (total (codes "q1")) (omega arith) refl refl refl, tt),
  ),
)

-- nothing is written for a range without one of its bounds, for a domain of sets, and where refining a bound was given up
bound_lacks : DomComes empty_scope [] 2 (int_dom (both_ends ∷ []) (es1 (n 1))) None
bound_lacks = inl refl

sets_fail : DomComes empty_scope [] 2 (set (upto 3)) None
sets_fail = tt

abstract_fails : DomComes empty_scope [] 2 (range (n 1) abstract) None
abstract_fails = inr (inr (inl (2, stuck sticks)))

-- ---- tables

-- a truth value p, and numbers `m : matrix indexed by [int(1..3)] of int(0..toInt(p))`, whose cells it bounds
abbrev p : TableDecl
p = record { name = codes "p"; axes = []; cell = bool_dom }

abbrev p_as_number : Ex
p_as_number = fn Fun.ToInt (cell_ex true (codes "p") no_exs)

abbrev m : TableDecl
m = record { name = codes "m"; axes = upto 3 ∷ []; cell = range (n 0) p_as_number }

-- what each declares behind it
found : adding true empty_scope m ≡ record { tables = (codes "m", false) ∷ []; finds = codes "m" ∷ [] }
found = refl

given : adding false empty_scope p ≡ record { tables = (codes "p", true) ∷ []; finds = [] }
given = refl

-- p is written as it is
p_written : DeclComes empty_scope [] 2 p (Some p)
p_written = (refl, tt, tt)

numbers : (s : Scope) → DomIsWritten s [] 2 (upto 3) (upto 3)
numbers s = (refl, (as_written s (n 1) (n 1) (omega arith) refl refl refl, (as_written s (n 3) (n 3) (omega arith) refl refl refl, tt)))

-- so is m behind it
m_written : DeclComes (with_given empty_scope p) [] 2 m (Some m)
m_written = (
  refl,
  (numbers (with_given empty_scope p), tt),
  (
    refl,
    (
      as_written (with_given empty_scope p) (n 0) (n 0) (omega arith) refl refl refl,
      (as_written (with_given empty_scope p) p_as_number p_as_number (omega arith) refl refl refl, tt),
    ),
  ),
)

both_written : DeclsAreWritten (adding false) [] 2 empty_scope (p ∷ m ∷ []) (p ∷ m ∷ [])
both_written = one_written p_written (one_written m_written none_written)

-- but not before it, since no line declares p there
m_fails : DeclComes empty_scope [] 2 m None
m_fails = inr (inr (inr (inl (not_written empty_scope p_as_number (omega arith) refl refl))))

first_fails : OneDeclFails (adding false) [] 2 empty_scope (m ∷ p ∷ [])
first_fails =
    record { first = []; before = []; failing = m; rest = p ∷ []; all = refl; written = none_written; fails = m_fails }

-- of p there come a declaration that stands for it, and a line
abbrev line_of_p : Line
line_of_p = record { name = codes "p"; truth = true; found = false }

p_comes : (d : PDecl) → pure_decl empty_scope d ≡ p → DeclsCome (adding false) [] 2 empty_scope (p ∷ []) (Some (d ∷ [], line_of_p ∷ []))
p_comes d e =
    subst (λ u. DeclsAreWritten (adding false) [] 2 empty_scope (p ∷ []) (u ∷ []) × (scope_of (line_of_p ∷ []) ≡ with_given empty_scope u))
    (sym e) (one_written p_written none_written, refl)

-- of m before it nothing comes
nothing_comes : DeclsCome (adding false) [] 2 empty_scope (m ∷ p ∷ []) None
nothing_comes = first_fails

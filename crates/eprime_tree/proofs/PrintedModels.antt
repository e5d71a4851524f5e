-- What is appended where a model is printed, part by part.
use Rattle.std.proofs.Common.{◌≡◌, refl, sym, ap, ◌∙◌, subst, ℕ, zero, suc, ◌+◌, ◌<◌, ◌≤◌, List, [], ◌∷◌, ◌++◌, map, length, get_or, drop, append_assoc, append-nil, add-one}
use Rattle.std.specs.Prelude.{codes}
use Rattle.std.specs.Fmt.{digits}
use Rattle.ess_semantics.specs.Values.{Text}
use Rattle.ess_semantics.specs.Trees.{Ex, Dom}
use Rattle.ess_semantics.specs.DeclaredTables.{TableDecl}
use Rattle.ess_grammar.specs.Models.{Scope, empty_scope, with_given, with_find}
use Rattle.ess_grammar.specs.Words.{Word, given_word, find_word, matrix_word, indexed_word, by_word, of_word, such_word, that_word, minimising_word, maximising_word, open_square, close_square, comma, colon}
use Rattle.ess_print_laws.specs.TokenTexts.{word_text}
use Rattle.ess_print_laws.specs.Pieces.{Piece, space, next_line, comment, text_of, Printer, reserved, sign, named}
use Rattle.ess_print_laws.specs.Parts.{comma_before, commas}
use Rattle.ess_print_laws.specs.Expressions.{ex_pieces, dom_pieces, domains}
use Rattle.eprime_tree.specs.declared.expressions.PEx.{PEx}
use Rattle.eprime_tree.specs.declared.expressions.PDom.{PDom}
use Rattle.eprime_tree.specs.declared.models.PDecl.{PDecl}
use Rattle.eprime_tree.specs.declared.models.PGoal.{PGoal}
use Rattle.eprime_tree.specs.declared.models.PGoal.TheVariants.{Free, Minimise, Maximise}
use Rattle.eprime_tree.specs.declared.models.PModel.{PModel}
use Rattle.eprime_tree.specs.Views.{pure_ex, pure_dom, pure_decl, pure_decls, pure_goal, scope_of_givens, scope_of, pure_model}
use Rattle.eprime_tree.specs.Written.{written, dom_written, doms_written, matrix_over}
use Rattle.eprime_tree.specs.ModelText.{head_lines, declaration_lines, goal_line, constraint_lines, such_that_lines, model_text}
use Rattle.eprime_tree.specs.Printed.{Puts, read_ex, PrintsEx, PrintsDom, PrintsDoms, axes_pieces, PrintsAxes, PrintsDecl, PrintsDecls, PrintsGoal, PrintsRules, PrintsHead, line_before}
use Rattle.eprime_tree.proofs.Putting.{puts-text, puts-then, puts-between}
use Rattle.eprime_tree.proofs.Loops.{left-more, left-none, Listed, listed-none, listed-more, listed-all}

-- ---- the header

-- The first i lines are appended.
abbrev pub HeadListed : Text → Text → ℕ → List Text → Type 0
HeadListed before now i ls = (us : List Piece) → now ++ text_of (head_lines (drop i ls) us) ≡ before ++ text_of (head_lines ls us)

pub head_listed-more : (before now t1 t2 after : Text) (i : ℕ) (ls : List Text) (l : Text) → HeadListed before now i ls → i < length ls → l ≡ get_or ls i l → t1 ≡ now ++ codes "$ " → t2 ≡ t1 ++ l → after ≡ t2 ++ codes "\n" →
    HeadListed before after (i + 1) ls
head_listed-more before now t1 t2 after i ls l h lt is a b c us =
    let rest = head_lines (drop (i + 1) ls) us in
    puts-then now t2 after (λ us. comment l ∷ us) (λ us. next_line ∷ us)
    (puts-text now t2 (codes "$ " ++ l) (λ us. comment l ∷ us) (b ∙ ap (λ t. t ++ l) a ∙ append_assoc now (codes "$ ") l) (λ us. refl))
    (puts-text t2 after (codes "\n") (λ us. next_line ∷ us) c (λ us. refl)) rest
    ∙ ap (λ ms. now ++ text_of (head_lines ms us)) (sym (left-more ls i l lt is))
    ∙ h us

pub prints-head : (before now : Text) (i : ℕ) (ls : List Text) → HeadListed before now i ls → length ls ≤ i → PrintsHead before now ls
unfolding PrintsHead
prints-head before now i ls h ge us = ap (λ ms. now ++ text_of (head_lines ms us)) (sym (left-none ls i ge)) ∙ h us

-- ---- axes

-- Domains, of which the first i are appended.
abbrev pub DomsListed : Text → Text → ℕ → List PDom → Type 0
DomsListed before now i ds = Listed (λ s d. dom_pieces (dom_written (pure_dom s d))) before now i ds

pub doms_listed-none : (t : Text) (ds : List PDom) → DomsListed t t 0 ds
doms_listed-none t ds = listed-none (λ s d. dom_pieces (dom_written (pure_dom s d))) t ds

pub doms_listed-more : (before now mid after : Text) (i : ℕ) (ds : List PDom) (d : PDom) → DomsListed before now i ds → i < length ds → d ≡ get_or ds i d → mid ≡ now ++ comma_before i → PrintsDom mid after d →
    DomsListed before after (i + 1) ds
unfolding PrintsDom
doms_listed-more before now mid after i ds d l lt is h p =
    listed-more (λ s d. dom_pieces (dom_written (pure_dom s d))) before now mid after i ds d l lt is h p

pub prints-doms : (before now : Text) (i : ℕ) (ds : List PDom) → DomsListed before now i ds → length ds ≤ i → PrintsDoms before now ds
unfolding PrintsDoms
prints-doms before now i ds l ge s = listed-all (λ s d. dom_pieces (dom_written (pure_dom s d))) before now i ds l ge s

doms-map : (s : Scope) (ds : List PDom) → domains (doms_written (map (pure_dom s) ds)) ≡ map (λ d. dom_pieces (dom_written (pure_dom s d))) ds
doms-map s [] = refl
doms-map s (d ∷ ds) = ap (λ ps. dom_pieces (dom_written (pure_dom s d)) ∷ ps) (doms-map s ds)

pub prints-no_axes : (t : Text) (ds : List PDom) → ds ≡ [] → PrintsAxes t t ds
unfolding PrintsAxes
prints-no_axes t ds n s us = ap (λ ds. t ++ text_of (axes_pieces (map (pure_dom s) ds) us)) (sym n)

pub prints-axes : (t0 t1 t2 t3 : Text) (ds : List PDom) → (ds ≡ [] → ⊥) → t1 ≡ t0 ++ codes "matrix indexed by [" → PrintsDoms t1 t2 ds → t3 ≡ t2 ++ codes "] of " → PrintsAxes t0 t3 ds
unfolding PrintsAxes PrintsDoms
prints-axes t0 t1 t2 t3 [] n h p k s = absurd (n refl)
prints-axes t0 t1 t2 t3 (d ∷ ds) n h p k s =
    subst (λ ps. Puts t0 t3 (λ us. reserved matrix_word ∷ space ∷ reserved indexed_word ∷ space ∷ reserved by_word ∷ space ∷ sign open_square ∷ commas ps (sign close_square ∷ space ∷ reserved of_word ∷ space ∷ us))) (sym (doms-map s (d ∷ ds)))
    (puts-between t0 t1 t2 t3 (codes "matrix indexed by [") (codes "] of ") (λ us. reserved matrix_word ∷ space ∷ reserved indexed_word ∷ space ∷ reserved by_word ∷ space ∷ sign open_square ∷ us)
    (λ us. sign close_square ∷ space ∷ reserved of_word ∷ space ∷ us) (commas (map (λ d. dom_pieces (dom_written (pure_dom s d))) (d ∷ ds))) h (λ us. refl) (p s) k (λ us. refl))

-- ---- declarations

-- a table's domain is what stands before its cells, and theirs
matrix-pieces : (xs : List Dom) (d : Dom) (us : List Piece) → axes_pieces xs (dom_pieces (dom_written d) us) ≡ dom_pieces (matrix_over xs d) us
matrix-pieces [] d us = refl
matrix-pieces (x ∷ xs) d us = refl

pub prints-decl : (t0 t1 t2 t3 t4 t5 t6 t7 word : Text) (d : PDecl) → t1 ≡ t0 ++ word → t2 ≡ t1 ++ codes " " → t3 ≡ t2 ++ d.name → t4 ≡ t3 ++ codes " : " → PrintsAxes t4 t5 d.axes → PrintsDom t5 t6 d.cell →
    t7 ≡ t6 ++ codes "\n" → PrintsDecl t0 t7 word d
unfolding PrintsDecl PrintsAxes PrintsDom
prints-decl t0 t1 t2 t3 t4 t5 t6 t7 word d a b c e p q f w s is us =
    puts-then t5 t6 t7 (dom_pieces (dom_written (pure_dom s d.cell))) (λ us. next_line ∷ us) (q s) (puts-text t6 t7 (codes "\n") (λ us. next_line ∷ us) f (λ us. refl)) us
    ∙ p s (dom_pieces (dom_written (pure_dom s d.cell)) (next_line ∷ us))
    ∙ ap (λ vs. t4 ++ text_of vs) (matrix-pieces (map (pure_dom s) d.axes) (pure_dom s d.cell) (next_line ∷ us))
    ∙ puts-then t0 t1 t4 (λ us. reserved w ∷ us) (λ us. space ∷ named d.name ∷ space ∷ sign colon ∷ space ∷ us)
    (puts-text t0 t1 (word_text w) (λ us. reserved w ∷ us) (a ∙ ap (λ x. t0 ++ x) is) (λ us. refl))
    (puts-then t1 t2 t4 (λ us. space ∷ us) (λ us. named d.name ∷ space ∷ sign colon ∷ space ∷ us) (puts-text t1 t2 (codes " ") (λ us. space ∷ us) b (λ us. refl))
    (puts-then t2 t3 t4 (λ us. named d.name ∷ us) (λ us. space ∷ sign colon ∷ space ∷ us) (puts-text t2 t3 d.name (λ us. named d.name ∷ us) c (λ us. refl))
    (puts-text t3 t4 (codes " : ") (λ us. space ∷ sign colon ∷ space ∷ us) e (λ us. refl))))
    (dom_pieces (matrix_over (map (pure_dom s) d.axes) (pure_dom s d.cell)) (next_line ∷ us))

-- The first i declarations are appended: those that are left stand in a later scope.
pub record DeclsListed (before now : Text) (word : Text) (i : ℕ) (ds : List PDecl) : Type 0 where
  pub scope : (Scope → TableDecl → Scope) → Scope → Scope
  pub puts : (w : Word) (add : Scope → TableDecl → Scope) (s : Scope) → word ≡ word_text w → (us : List Piece) →
      now ++ text_of (declaration_lines w (pure_decls add (scope add s) (drop i ds)) us) ≡ before ++ text_of (declaration_lines w (pure_decls add s ds) us)

pub decls_listed-none : (t word : Text) (ds : List PDecl) → DeclsListed t t word 0 ds
decls_listed-none t word ds = record { scope = λ add s. s; puts = λ w add s is us. refl }

pub decls_listed-more : (before now after word : Text) (i : ℕ) (ds : List PDecl) (d : PDecl) → DeclsListed before now word i ds → i < length ds → d ≡ get_or ds i d → PrintsDecl now after word d → DeclsListed before after word (i + 1) ds
unfolding PrintsDecl
decls_listed-more before now after word i ds d l lt is p = record {
  scope = λ add s. add (l.scope add s) (pure_decl (l.scope add s) d);
  puts = λ w add s e us.
      let t = l.scope add s in
      p w t e (declaration_lines w (pure_decls add (add t (pure_decl t d)) (drop (i + 1) ds)) us)
      ∙ ap (λ ds. now ++ text_of (declaration_lines w (pure_decls add t ds) us)) (sym (left-more ds i d lt is))
      ∙ l.puts w add s e us;
}

pub prints-decls : (before now word : Text) (i : ℕ) (ds : List PDecl) → DeclsListed before now word i ds → length ds ≤ i → PrintsDecls before now word ds
unfolding PrintsDecls
prints-decls before now word i ds l ge w add s e us =
    ap (λ xs. now ++ text_of (declaration_lines w (pure_decls add (l.scope add s) xs) us)) (sym (left-none ds i ge)) ∙ l.puts w add s e us

-- ---- the objective

pub same_goal : (t0 t1 : Text) (g v : PGoal) → g ≡ v → PrintsGoal t0 t1 v → PrintsGoal t0 t1 g
same_goal t0 t1 g v h p = subst (λ g. PrintsGoal t0 t1 g) (sym h) p

pub prints-Free : (t : Text) → PrintsGoal t t Free
unfolding PrintsGoal
prints-Free t s us = refl

pub prints-Minimise : (t0 t1 t2 t3 : Text) (e : PEx) → t1 ≡ t0 ++ codes "minimising " → PrintsEx t1 t2 e → t3 ≡ t2 ++ codes "\n" → PrintsGoal t0 t3 (Minimise e)
unfolding PrintsGoal PrintsEx
prints-Minimise t0 t1 t2 t3 e h p k s =
    puts-between t0 t1 t2 t3 (codes "minimising ") (codes "\n") (λ us. reserved minimising_word ∷ space ∷ us) (λ us. next_line ∷ us) (ex_pieces (read_ex s e)) h (λ us. refl) (p s) k (λ us. refl)

pub prints-Maximise : (t0 t1 t2 t3 : Text) (e : PEx) → t1 ≡ t0 ++ codes "maximising " → PrintsEx t1 t2 e → t3 ≡ t2 ++ codes "\n" → PrintsGoal t0 t3 (Maximise e)
unfolding PrintsGoal PrintsEx
prints-Maximise t0 t1 t2 t3 e h p k s =
    puts-between t0 t1 t2 t3 (codes "maximising ") (codes "\n") (λ us. reserved maximising_word ∷ space ∷ us) (λ us. next_line ∷ us) (ex_pieces (read_ex s e)) h (λ us. refl) (p s) k (λ us. refl)

-- ---- constraints

-- What is left of them behind the first i.
abbrev pub constraints_from : ℕ → List Ex → Printer
constraints_from zero es us = constraint_lines es us
constraints_from (suc i) [] us = next_line ∷ us
constraints_from (suc i) (e ∷ es) us = sign comma ∷ constraint_lines (e ∷ es) us

first-constraint : (now mid : Text) (i : ℕ) (e : Ex) (es : List Ex) (us : List Piece) → mid ≡ now ++ line_before i →
    mid ++ text_of (ex_pieces (written e) (constraints_from (suc i) es us)) ≡ now ++ text_of (constraints_from i (e ∷ es) us)
first-constraint now mid zero e [] us h = ap (λ x. x ++ text_of (ex_pieces (written e) (next_line ∷ us))) h ∙ append_assoc now (codes "\n    ") (text_of (ex_pieces (written e) (next_line ∷ us)))
first-constraint now mid zero e (f ∷ es) us h =
    let vs = ex_pieces (written e) (sign comma ∷ constraint_lines (f ∷ es) us) in ap (λ x. x ++ text_of vs) h ∙ append_assoc now (codes "\n    ") (text_of vs)
first-constraint now mid (suc i) e [] us h = ap (λ x. x ++ text_of (ex_pieces (written e) (next_line ∷ us))) h ∙ append_assoc now (codes ",\n    ") (text_of (ex_pieces (written e) (next_line ∷ us)))
first-constraint now mid (suc i) e (f ∷ es) us h =
    let vs = ex_pieces (written e) (sign comma ∷ constraint_lines (f ∷ es) us) in ap (λ x. x ++ text_of vs) h ∙ append_assoc now (codes ",\n    ") (text_of vs)

no-constraints : (i : ℕ) (us : List Piece) → constraints_from i [] us ≡ next_line ∷ us
no-constraints zero us = refl
no-constraints (suc i) us = refl

-- The first i constraints are appended.
abbrev pub RulesListed : Text → Text → ℕ → List PEx → Type 0
RulesListed before now i es = (s : Scope) (us : List Piece) → now ++ text_of (constraints_from i (map (pure_ex s) (drop i es)) us) ≡ before ++ text_of (constraint_lines (map (pure_ex s) es) us)

pub rules_listed-none : (t : Text) (es : List PEx) → RulesListed t t 0 es
rules_listed-none t es s us = refl

pub rules_listed-more : (before now mid after : Text) (i : ℕ) (es : List PEx) (e : PEx) → RulesListed before now i es → i < length es → e ≡ get_or es i e → mid ≡ now ++ line_before i → PrintsEx mid after e → RulesListed before after (i + 1) es
unfolding PrintsEx
rules_listed-more before now mid after i es e l lt is h p s us =
    let xs = map (pure_ex s) (drop (i + 1) es) in
    ap (λ j. after ++ text_of (constraints_from j xs us)) (add-one i)
    ∙ p s (constraints_from (suc i) xs us)
    ∙ first-constraint now mid i (pure_ex s e) xs us h
    ∙ ap (λ ys. now ++ text_of (constraints_from i (map (pure_ex s) ys) us)) (sym (left-more es i e lt is))
    ∙ l s us

pub prints-no_rules : (t : Text) (es : List PEx) → es ≡ [] → PrintsRules t t es
unfolding PrintsRules
prints-no_rules t es n s us = ap (λ es. t ++ text_of (such_that_lines (map (pure_ex s) es) us)) (sym n)

pub prints-rules : (t0 t1 t2 t3 : Text) (i : ℕ) (es : List PEx) → (es ≡ [] → ⊥) → t1 ≡ t0 ++ codes "such that" → RulesListed t1 t2 i es → length es ≤ i → t3 ≡ t2 ++ codes "\n" → PrintsRules t0 t3 es
unfolding PrintsRules
prints-rules t0 t1 t2 t3 i [] n h l ge k s us = absurd (n refl)
prints-rules t0 t1 t2 t3 i (e ∷ es) n h l ge k s us =
    puts-text t2 t3 (codes "\n") (λ us. next_line ∷ us) k (λ us. refl) us
    ∙ ap (λ vs. t2 ++ text_of vs) (sym (no-constraints i us))
    ∙ ap (λ ys. t2 ++ text_of (constraints_from i (map (pure_ex s) ys) us)) (sym (left-none (e ∷ es) i ge))
    ∙ l s us
    ∙ puts-text t0 t1 (codes "such that") (λ us. reserved such_word ∷ space ∷ reserved that_word ∷ us) h (λ us. refl) (constraint_lines (map (pure_ex s) (e ∷ es)) us)

-- ---- the whole

pub prints-model : (t0 t1 t2 t3 t4 t5 : Text) (m : PModel) → t0 ≡ codes "language ESSENCE' 1.0\n" → PrintsHead t0 t1 m.head → PrintsDecls t1 t2 (codes "given") m.givens → PrintsDecls t2 t3 (codes "find") m.finds →
    PrintsGoal t3 t4 m.goal → PrintsRules t4 t5 m.rules → t5 ≡ model_text m.head (pure_model m)
unfolding PrintsHead PrintsDecls PrintsGoal PrintsRules digits
prints-model t0 t1 t2 t3 t4 t5 m h a b c d e =
    let tail = such_that_lines (map (pure_ex (scope_of m)) m.rules) [] in
    let goal = goal_line (pure_goal (scope_of m) m.goal) tail in
    let finds = declaration_lines find_word (pure_decls with_find (scope_of_givens m) m.finds) goal in
    let givens = declaration_lines given_word (pure_decls with_given empty_scope m.givens) finds in
    sym (append-nil t5)
    ∙ e (scope_of m) []
    ∙ d (scope_of m) tail
    ∙ c find_word with_find (scope_of_givens m) refl goal
    ∙ b given_word with_given empty_scope refl finds
    ∙ a givens
    ∙ ap (λ t. t ++ text_of (head_lines m.head givens)) h

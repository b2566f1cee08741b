-- The truths of a test, worked out in number order. Assumes nothing.
use Rattle.std.proofs.Common.{◌≡◌, ℕ, zero, suc, ◌+◌, ◌-◌, ◌<◌, ◌≤◌, Bool, true, false, not, ◌&&◌, ◌||◌, ltb, leb, List, [], ◌∷◌, ◌++◌, length, get_or, take, set, ℤ, sym, refl, ap, ◌∙◌, ap₂, add-zero, arith}
use Rattle.std.proofs.lemmas.List.{take_more, take_more_set, take_all, get_or-take, get_or_push, get_or_append_left, length_push}
use Rattle.std.proofs.lemmas.Bool.{and_parts, leb-true, ltb-true}
use Rattle.std.specs.List.{enumerate_from, list_all}
use Rattle.queries.specs.declared.nodes.Node.{Node}
use Rattle.queries.specs.declared.nodes.Node.TheVariants.{Always, Compare, Not, And, Or}
use Rattle.queries.specs.Tests.{node_truth, truths_after, truths, is_counted, passes, rests_below, WorkedOut}

-- the nodes of a first part, and then those behind it
truths_append : (earlier : List Bool) (xs ys : List Node) (cells : List ℤ) → truths_after earlier (xs ++ ys) cells ≡ truths_after (truths_after earlier xs cells) ys cells
truths_append earlier [] ys cells = refl
truths_append earlier (x ∷ xs) ys cells = truths_append (earlier ++ node_truth x earlier cells ∷ []) xs ys cells

-- one turn of a walk that writes each truth in its place
pub truth_turn : (nodes : List Node) (cells : List ℤ) (held : List Bool) (i : ℕ) (d : Node) (t : Bool) → i < length nodes → i < length held → take i held ≡ truths (take i nodes) cells → t ≡ node_truth (get_or nodes i d) (take i held) cells → take (i + 1) (set held i t) ≡ truths (take (i + 1) nodes) cells
truth_turn nodes cells held i d t within room before true-here =
    take_more_set held i t room
    ∙ ap (λ b. take i held ++ b ∷ []) true-here
    ∙ ap (λ ts. ts ++ node_truth (get_or nodes i d) ts cells ∷ []) before
    ∙ sym (truths_append [] (take i nodes) (get_or nodes i d ∷ []) cells)
    ∙ ap (λ ns. truths ns cells) (sym (take_more nodes i d within))

-- the truths that stand before are kept
kept : (earlier : List Bool) (nodes : List Node) (cells : List ℤ) (k : ℕ) → k < length earlier → get_or (truths_after earlier nodes cells) k false ≡ get_or earlier k false
kept earlier [] cells k below = refl
kept earlier (node ∷ nodes) cells k below =
    kept (earlier ++ node_truth node earlier cells ∷ []) nodes cells k (omega (arith, length_push earlier (node_truth node earlier cells)))
    ∙ get_or_append_left earlier (node_truth node earlier cells ∷ []) false k below

-- a node's truth looks only at the nodes that it rests on
same_truth : (node : Node) (n : ℕ) (xs ys : List Bool) (cells : List ℤ) → rests_below n node ≡ true → ((k : ℕ) → k < n → get_or xs k false ≡ get_or ys k false) → node_truth node xs cells ≡ node_truth node ys cells
same_truth Always n xs ys cells rests same = refl
same_truth (Compare column ordering number) n xs ys cells rests same = refl
same_truth (Not a) n xs ys cells rests same = ap not (same a (ltb-true a n rests))
same_truth (And a b) n xs ys cells rests same =
    let parts = and_parts (ltb a n) (ltb b n) rests in
    ap₂ ◌&&◌ (same a (ltb-true a n parts.0)) (same b (ltb-true b n parts.1))
same_truth (Or a b) n xs ys cells rests same =
    let parts = and_parts (ltb a n) (ltb b n) rests in
    ap₂ ◌||◌ (same a (ltb-true a n parts.0)) (same b (ltb-true b n parts.1))

-- each node behind those that have their truth is worked out from all of the truths
worked_after : (earlier : List Bool) (n : ℕ) (nodes : List Node) (cells : List ℤ) → length earlier ≡ n → list_all (λ (number, node). rests_below number node) (enumerate_from n nodes) ≡ true → (i : ℕ) (d : Node) → i < length nodes → get_or (truths_after earlier nodes cells) (n + i) false ≡ node_truth (get_or nodes i d) (truths_after earlier nodes cells) cells
worked_after earlier n [] cells long form i d within = absurd (omega arith)
worked_after earlier n (node ∷ nodes) cells long form zero d within =
    let more : List Bool = earlier ++ node_truth node earlier cells ∷ [] in
    let all : List Bool = truths_after more nodes cells in
    let longer : length more ≡ length earlier + 1 = length_push earlier (node_truth node earlier cells) in
    ap (λ k. get_or all k false) (add-zero n)
    ∙ kept more nodes cells n (omega arith)
    ∙ get_or_push earlier (node_truth node earlier cells) false n long
    ∙ same_truth node n earlier all cells (and_parts _ _ form).0 (λ k below. sym (kept earlier (node ∷ nodes) cells k (omega arith)))
worked_after earlier n (node ∷ nodes) cells long form (suc i) d within =
    let more : List Bool = earlier ++ node_truth node earlier cells ∷ [] in
    let longer : length more ≡ n + 1 = length_push earlier (node_truth node earlier cells) ∙ omega arith in
    ap (λ k. get_or (truths_after more nodes cells) k false) (omega arith)
    ∙ worked_after more (n + 1) nodes cells longer (and_parts _ _ form).1 i d (omega arith)

pub worked_out : (nodes : List Node) (cells : List ℤ) → WorkedOut nodes cells
worked_out nodes cells form i d within = ap (λ k. get_or (truths nodes cells) k false) (omega arith) ∙ worked_after [] 0 nodes cells refl form i d within

-- a test that is not counted passes no row
pub not_counted : (nodes : List Node) (cells : List ℤ) → false ≡ is_counted nodes → false ≡ passes nodes cells
unfolding passes
not_counted nodes cells counted = ap (λ b. b && get_or (truths nodes cells) (length nodes - 1) false) counted

-- the truth in the last node's place decides
pub last_decides : (nodes : List Node) (cells : List ℤ) (held : List Bool) (i : ℕ) → true ≡ is_counted nodes → length nodes ≤ i → take i held ≡ truths (take i nodes) cells → get_or held (length nodes - 1) false ≡ passes nodes cells
unfolding passes
last_decides nodes cells held i counted past before =
    let some : 1 ≤ length nodes = leb-true 1 (length nodes) (and_parts (leb 1 (length nodes)) (leb (length nodes) 15) (sym counted)).0 in
    sym (get_or-take i held (length nodes - 1) false (omega arith))
    ∙ ap (λ ts. get_or ts (length nodes - 1) false) (before ∙ ap (λ ns. truths ns cells) (take_all i nodes past))
    ∙ ap (λ b. b && get_or (truths nodes cells) (length nodes - 1) false) counted

-- The order in which rounds find facts, and the links that are taken of it.
use Rattle.std.proofs.Common.{◌≡◌, Bool, true, false, List, [], ◌∷◌, ◌++◌, refl, sym, ap}
use Rattle.std.proofs.Common.{subst, ◌∙◌, IsTrue, ◌⊎◌, inl, inr}
use Rattle.std.specs.Prelude.{not, ◌&&◌, ◌||◌}
use Rattle.std.specs.List.{AllByRecursion}
use Rattle.std.proofs.lemmas.Bool.{or_cases, or_left, or_right, and_parts, and_from, cases_Bool}
use Rattle.mrc_base.specs.declared.Fact.{Fact}
use Rattle.mrc_model.specs.IsIn.{IsIn, here, later}
use Rattle.mrc_model.specs.Wiring.{Wiring}
use Rattle.mrc_model.specs.Rules.{Has, InRange, Rule, Instance, Derives, EndsIn}
use Rattle.mrc_facts.specs.Order.{is_same}
use Rattle.mrc_facts.specs.Sets.{has, IsAscending}
use Rattle.mrc_classes.specs.Following.{IsFirstFact}
use Rattle.mrc_classes.specs.Instances.{premise_list}
use Rattle.mrc_facts.proofs.Total.{equal_from_same, same_itself}
use Rattle.mrc_classes.proofs.Following.{all_as}
use Rattle.mrc_closure.specs.declared.chains.Link.{Link}
use Rattle.mrc_closure.specs.Merging.{Merged}
use Rattle.mrc_closure.proofs.Keeping.{FromOne}
use Rattle.mrc_closure.specs.Orders.{IsFollowing, IsOnce, IsOrder, HaveSame, link_instance}
use Rattle.mrc_closure.specs.Orders.{backward, HasLink, IsLinked}
use Rattle.mrc_closure.proofs.Cuts.{cut_none, cut_append}
use Rattle.mrc_closure.proofs.Cuts.{cut_longer, has_append, has_left, has_right, once_ascending}
use Rattle.mrc_closure.proofs.Keeping.{new_found, new_lacked, new_there, old_or_new}

-- what follows from a set follows from a larger one
following_more : (W : Wiring) (S T : Fact → Bool) (f : Fact)
    → ((g : Fact) → IsTrue (S g) → IsTrue (T g))
    → IsFollowing W S f
    → IsFollowing W T f
following_more W S T f more x = record {
  rule = x.rule;
  follows = record {
    premises = x.follows.premises;
    rule = x.follows.rule;
    known = all_as (λ p. InRange W p × Has S p) (λ p. InRange W p × Has T p)
        x.follows.premises (λ p h. (h.0, more p h.1)) x.follows.known;
    in_range = x.follows.in_range;
  };
}

-- rounds

-- the facts are those of the order and the new ones, which stand behind it
pub record IsOrdered (W : Wiring) (facts order new : List Fact) : Type 0 where
  pub in_order : IsOrder W order
  pub once : IsOnce order
  pub of_facts : (g : Fact) → IsTrue (has facts g) → IsTrue (has order g) ⊎ IsTrue (has new g)
  pub in_facts : (g : Fact) → IsTrue (has order g) → IsTrue (has facts g)
  pub new_facts : (g : Fact) → IsTrue (has new g) → IsTrue (has facts g)
  pub new_behind : (g : Fact) → IsTrue (has new g) → IsTrue (has order g) → ⊥
  pub follow : (g : Fact) → IsTrue (has new g) → IsFollowing W (has order) g

order_begun_from : (W : Wiring) (first facts new : List Fact)
    → ((g : Fact) → IsTrue (has first g) → IsFirstFact W g)
    → Merged [] first facts new
    → IsOrdered W facts [] new
order_begun_from W first facts new begins m = record {
  in_order = λ before f behind e. absurd (cut_none before f behind e);
  once = λ before f behind e. absurd (cut_none before f behind e);
  of_facts = λ g h. elim (old_or_new [] first facts new m g h) [
    | inl none ↦ inl none
    | inr at ↦ inr at.1
  ];
  in_facts = λ g h. absurd cc;
  new_facts = new_there [] first facts new m;
  new_behind = λ g h none. absurd cc;
  follow = λ g h. let x = begins g (new_found [] first facts new m g h) in
      record {
        rule = x.rule;
        follows = record { premises = []; rule = x.instance; known = tt; in_range = x.in_range };
      };
}

-- nothing was found yet
pub order_begun : (W : Wiring) (before first facts order new : List Fact)
    → before ≡ []
    → order ≡ []
    → ((g : Fact) → IsTrue (has first g) → IsFirstFact W g)
    → Merged before first facts new
    → IsOrdered W facts order new
order_begun W before first facts order new none empty begins m =
    subst (λ fs. IsOrdered W facts fs new) (sym empty)
    (order_begun_from W first facts new begins
    (subst (λ fs. Merged fs first facts new) none m))

-- the order with the new facts
module _ (W : Wiring) (facts order new : List Fact) (o : IsOrdered W facts order new)
    (ascending : IsAscending new) where
  pub order_more : IsOrder W (order ++ new)
  order_more before f behind e =
      elim (cut_append order new before f behind e) [
        | inl at ↦ o.in_order before f at.rest at.is
        | inr at ↦ following_more W (has order) (has before) f
            (λ g h. subst (λ fs. IsTrue (has fs g)) (sym at.start)
            (has_left order at.between g h))
            (o.follow f (subst (λ fs. IsTrue (has fs f)) (sym at.is)
            (has_right at.between (f ∷ behind) f
            (or_left (is_same f f) (has behind f) (same_itself f)))))
      ]

  pub once_more : IsOnce (order ++ new)
  once_more before f behind e h =
      elim (cut_append order new before f behind e) [
        | inl at ↦ o.once before f at.rest at.is h
        | inr at ↦
            let at_new : IsTrue (has new f) = subst (λ fs. IsTrue (has fs f)) (sym at.is)
            (has_right at.between (f ∷ behind) f
            (or_left (is_same f f) (has behind f) (same_itself f))) in
            elim (has_append order at.between f (subst (λ fs. IsTrue (has fs f)) at.start h)) [
              | inl old ↦ o.new_behind f at_new old
              | inr again ↦ once_ascending new ascending at.between f behind at.is again
            ]
      ]

  all_facts : (g : Fact) → IsTrue (has facts g) → IsTrue (has (order ++ new) g)
  all_facts g h = elim (o.of_facts g h) [
    | inl at ↦ has_left order new g at
    | inr at ↦ has_right order new g at
  ]

  no_more : (g : Fact) → IsTrue (has (order ++ new) g) → IsTrue (has facts g)
  no_more g h = elim (has_append order new g h) [
    | inl at ↦ o.in_facts g at
    | inr at ↦ o.new_facts g at
  ]

  pub same_more : HaveSame facts (order ++ new)
  same_more g = (all_facts g, no_more g)

  -- a round, and its conclusions put into the set
  pub order_gone_on : (found facts_then new_then : List Fact)
      → ((g : Fact) → IsTrue (has found g) → FromOne W facts new g)
      → Merged facts found facts_then new_then
      → IsOrdered W facts_then (order ++ new) new_then
  order_gone_on found facts_then new_then found_is m = record {
    in_order = order_more;
    once = once_more;
    of_facts = λ g h. elim (old_or_new facts found facts_then new_then m g h) [
      | inl old ↦ inl (all_facts g old)
      | inr at ↦ inr at.1
    ];
    in_facts = λ g h. subst IsTrue (sym (m.members g))
        (or_left (has facts g) (has found g) (no_more g h));
    new_facts = new_there facts found facts_then new_then m;
    new_behind = λ g h old. let lacked = new_lacked facts found facts_then new_then m g h in
        let there = no_more g old in
        absurd cc;
    follow = λ g h. followed g (found_is g (new_found facts found facts_then new_then m g h));
  }
    where
      known : (x : Fact) (p : Fact)
          → IsTrue (has new x)
          → (p ≡ x) ⊎ Has (has facts) p
          → IsTrue (has (order ++ new) p)
      known x p at (inl e) =
          subst (λ y. IsTrue (has (order ++ new) y)) (sym e) (has_right order new x at)
      known x p at (inr h) = all_facts p h

      followed : (g : Fact) → FromOne W facts new g → IsFollowing W (has (order ++ new)) g
      followed g x =
          let c = x.consequence.follows in
          record {
            rule = x.consequence.rule;
            follows = record {
              premises = c.premises;
              rule = c.rule;
              known = all_as (λ q. InRange W q × ((q ≡ x.premise) ⊎ Has (has facts) q))
                  (λ q. InRange W q × Has (has (order ++ new)) q) c.premises
                  (λ p h. (h.0, known x.premise p x.there h.1))
                  c.known;
              in_range = c.in_range;
            };
          }

-- no new fact is left
pub order_same : (W : Wiring) (facts order : List Fact)
    → IsOrdered W facts order []
    → HaveSame facts order
order_same W facts order o g = (
  (λ h. elim (o.of_facts g h) [ inl at ↦ at | inr none ↦ absurd cc ]),
  o.in_facts g,
)

-- the search, from the last fact of the order on

-- the links that were taken, as a derivation from whatever is still needed
pub record IsSearch (W : Wiring) (fact : Fact) (facts order needed : List Fact)
    (links : List Link) : Type 0 where
  pub in_order : IsOrder W order
  pub once : IsOnce order
  pub same : HaveSame facts order
  pub derives : (known : List Fact)
      → ((p : Fact) → IsTrue (has needed p) → IsTrue (has order p) → IsIn p known)
      → Derives W known (backward links [])
  pub ends : ((backward links [] ≡ []) × ((g : Fact) → IsTrue (has needed g) → g ≡ fact)
      × IsTrue (has needed fact) × IsTrue (has order fact))
      ⊎ EndsIn (backward links []) fact

pub search_begun : (W : Wiring) (fact : Fact) (facts order needed : List Fact)
    → IsOrder W order
    → IsOnce order
    → HaveSame facts order
    → IsTrue (has facts fact)
    → ((g : Fact) → has needed g ≡ (is_same g fact || has [] g))
    → IsSearch W fact facts order needed []
search_begun W fact facts order needed ordered once same there needs = record {
  in_order = ordered;
  once = once;
  same = same;
  derives = λ known h. tt;
  ends = inl (
    refl,
    (λ g h. elim (or_cases (is_same g fact) false (subst IsTrue (needs g) h)) [
      | inl e ↦ equal_from_same g fact e
      | inr none ↦ absurd cc
    ]),
    subst IsTrue (sym (needs fact)) (or_left (is_same fact fact) false (same_itself fact)),
    (same fact).0 there,
  );
}

-- the links from the last one on, where there is one more
pub backward_push : (links : List Link) (l : Link) (more : List Instance)
    → backward (links ++ l ∷ []) more ≡ link_instance l ∷ backward links more
backward_push [] l more = refl
backward_push (k ∷ links) l more = backward_push links l (link_instance k ∷ more)

module _ (W : Wiring) (fact : Fact) (facts order needed : List Fact) (links : List Link)
    (s : IsSearch W fact facts order needed links) (next : Fact) (rest : List Fact)
    (popped : order ≡ rest ++ next ∷ []) where
  pub rest_order : IsOrder W rest
  rest_order before f behind e =
      s.in_order before f (behind ++ next ∷ [])
      (popped ∙ cut_longer rest (next ∷ []) before f behind e)

  rest_once : IsOnce rest
  rest_once before f behind e =
      s.once before f (behind ++ next ∷ [])
      (popped ∙ cut_longer rest (next ∷ []) before f behind e)

  not_again : IsTrue (has rest next) → ⊥
  not_again h = s.once rest next [] popped h

  rest_or_next : (g : Fact) → IsTrue (has order g) → IsTrue (has rest g) ⊎ (g ≡ next)
  rest_or_next g h =
      elim (has_append rest (next ∷ []) g (subst (λ fs. IsTrue (has fs g)) popped h)) [
        | inl at ↦ inl at
        | inr at ↦ elim (or_cases (is_same g next) false at) [
          | inl e ↦ inr (equal_from_same g next e)
          | inr none ↦ absurd cc
        ]
      ]

  pub in_rest : (g : Fact) → IsTrue (has rest g) → IsTrue (has order g)
  in_rest g h = subst (λ fs. IsTrue (has fs g)) (sym popped) (has_left rest (next ∷ []) g h)

  not_true : (b : Bool) → IsTrue (not b) → IsTrue b → ⊥
  not_true true h x = absurd cc
  not_true false h x = absurd cc

  other : (g : Fact) → (g ≡ next → ⊥) → IsTrue (not (is_same g next))
  other g none = elim (is_same g next) as (λ b. is_same g next ≡ b → IsTrue (not b)) [
    | true ↦ λ e. absurd (none (equal_from_same g next e))
    | false ↦ λ e. refl
  ] refl

  -- the set without the fact
  pub same_then : (facts_then : List Fact)
      → ((g : Fact) → has facts_then g ≡ (not (is_same g next) && has facts g))
      → HaveSame facts_then rest
  same_then facts_then gone g = (
    (λ h. let p = and_parts (not (is_same g next)) (has facts g) (subst IsTrue (gone g) h) in
        elim (rest_or_next g ((s.same g).0 p.1)) [
          | inl at ↦ at
          | inr e ↦ absurd (not_true (is_same g next) p.0
              (subst (λ x. IsTrue (is_same g x)) e (same_itself g)))
        ]),
    (λ h. subst IsTrue (sym (gone g)) (and_from (not (is_same g next)) (has facts g)
        (other g (λ e. not_again (subst (λ x. IsTrue (has rest x)) e h)))
        ((s.same g).1 (in_rest g h)))),
  )

  -- it follows from what is left
  pub next_follows : (facts_then : List Fact)
      → HaveSame facts_then rest
      → IsFollowing W (has facts_then) next
  next_follows facts_then same =
      following_more W (has rest) (has facts_then) next (λ g h. (same g).1 h)
      (s.in_order rest next [] popped)

  -- it is not needed
  idle : (facts_then : List Fact)
      → HaveSame facts_then rest
      → has needed next ≡ false
      → IsSearch W fact facts_then rest needed links
  idle facts_then same none = record {
    in_order = rest_order;
    once = rest_once;
    same = same;
    derives = λ known h. s.derives known (λ p need at. elim (rest_or_next p at) [
      | inl left ↦ h p need left
      | inr e ↦ let need_next = subst (λ x. IsTrue (has needed x)) e need in absurd cc
    ]);
    ends = elim s.ends [
      | inl x ↦ inl (
        x.0,
        x.1,
        x.2,
        elim (rest_or_next fact x.3) [
          | inl left ↦ left
          | inr e ↦ let need_next = subst (λ y. IsTrue (has needed y)) e x.2 in absurd cc
        ],
      )
      | inr x ↦ inr x
    ];
  }

  -- it is needed, and concluded by one more link
  linked : (facts_then needed_then : List Fact) (links_then : List Link)
      → HaveSame facts_then rest
      → IsTrue (has needed next)
      → HasLink W (has facts_then) next needed needed_then links links_then
      → IsSearch W fact facts_then rest needed_then links_then
  linked facts_then needed_then links_then same need l = record {
    in_order = rest_order;
    once = rest_once;
    same = same;
    derives = λ known h. subst (Derives W known) (sym chain) (derives known h);
    ends = inr (subst (λ is. EndsIn is fact) (sym chain) (ends (backward links []) s.ends));
  }
    where
      chain : backward links_then [] ≡ link_instance l.link ∷ backward links []
      chain = ap (λ ls. backward ls []) l.pushed ∙ backward_push links l.link []

      still : (known : List Fact)
          → ((p : Fact) → IsTrue (has needed_then p) → IsTrue (has rest p) → IsIn p known)
          → (p : Fact)
          → IsTrue (has needed p)
          → IsTrue (has order p)
          → IsIn p (l.link.fact ∷ known)
      still known h p needs at = elim (rest_or_next p at) [
        | inl left ↦ later (h p (subst IsTrue (sym (l.needed p))
            (or_right (has (premise_list l.link.instance.premises) p) (has needed p) needs)) left)
        | inr e ↦ subst (λ x. IsIn x (l.link.fact ∷ known)) (l.fact ∙ sym e) here
      ]

      all_in : (fs : List Fact) (known : List Fact)
          → ((p : Fact) → IsTrue (has needed_then p) → IsTrue (has rest p) → IsIn p known)
          → ((p : Fact) → IsTrue (has fs p) → IsTrue (has needed_then p))
          → AllByRecursion (λ p. InRange W p × Has (has facts_then) p) fs
          → AllByRecursion (λ p. IsIn p known) fs
      all_in [] known h needs all = tt
      all_in (f ∷ fs) known h needs all = (
        h f (needs f (or_left (is_same f f) (has fs f) (same_itself f))) ((same f).0 all.0.1),
        all_in fs known h (λ p at. needs p (or_right (is_same p f) (has fs p) at)) all.1,
      )

      derives : (known : List Fact)
          → ((p : Fact) → IsTrue (has needed_then p) → IsTrue (has rest p) → IsIn p known)
          → Derives W known (link_instance l.link ∷ backward links [])
      derives known h = (
        subst (λ f. Rule W (link_instance l.link).rule (premise_list l.link.instance.premises) f)
            (sym l.fact) l.instance.rule,
        subst (InRange W) (sym l.fact) l.instance.in_range,
        all_in (premise_list l.link.instance.premises) known h
            (λ p at. subst IsTrue (sym (l.needed p))
            (or_left (has (premise_list l.link.instance.premises) p) (has needed p) at))
            l.instance.known,
        s.derives (l.link.fact ∷ known) (still known h),
      )

      ends : (is : List Instance)
          → ((is ≡ []) × ((g : Fact) → IsTrue (has needed g) → g ≡ fact)
          × IsTrue (has needed fact) × IsTrue (has order fact)) ⊎ EndsIn is fact
          → EndsIn (link_instance l.link ∷ is) fact
      ends [] (inl x) = l.fact ∙ x.1 next need
      ends [] (inr x) = absurd x
      ends (i ∷ is) (inl x) = absurd (let none = x.0 in cc)
      ends (i ∷ is) (inr x) = x

  -- whether it is needed or not
  pub searched : (facts_then needed_then : List Fact) (links_then : List Link)
      → HaveSame facts_then rest
      → IsLinked W (has facts_then) next needed needed_then links links_then
      → IsSearch W fact facts_then rest needed_then links_then
  searched facts_then needed_then links_then same l =
      elim (cases_Bool (has needed next)) [
        | inl need ↦ linked facts_then needed_then links_then same need (l.linked need)
        | inr none ↦ let kept = l.idle none in
            subst (λ ls. IsSearch W fact facts_then rest needed_then ls) (sym kept.1)
            (subst (λ fs. IsSearch W fact facts_then rest fs links) (sym kept.0)
            (idle facts_then same none))
      ]

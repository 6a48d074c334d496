use Rattle.std.proofs.Common.{rules, ◌≡◌, ◌≤◌, [], Ok, sym, subst, ap, ◌∙◌, arith, true, false}
use Rattle.std.proofs.Common.{refl}
use Rattle.mrc_base.specs.declared.PortRight.TheVariants.{Receive}
use Rattle.mrc_model.specs.FirstHoldings.{line_holdings, names_given}
use Rattle.mrc_wiring.specs.State.{State, IsState, IsGiven, held_more, next_birth}
use Rattle.mrc_wiring.proofs.StateLemmas.{port_by, port_over, port_under, port_kept}
use Rattle.mrc_wiring.proofs.resolving.Resolving.place_port.Goals as goal

pub returns-then-names-gt-NAMES-clause-exact : goal.returns-then-names-gt-NAMES-clause-exact
returns-then-names-gt-NAMES-clause-exact c =
    let table = c.args.self.now.table in
    let hs = line_holdings 0 0 table.lines in
    let given = subst (λ (s : State). IsGiven hs s.given) (sym c.self.view_is)
    c.requires.state.given in
    let count : c.count_with-names.result ≡ names_given c.args.receiver [] (held_more hs
    c.args.receiver (next_birth table) Receive) =
    c.count_with-names.ensures hs given
    ∙ ap (λ p. names_given c.args.receiver [] (held_more hs c.args.receiver p Receive))
    c.next-port.ensures.exact in
    let over = port_over c.args.self.now c.args.name.now c.args.receiver c.args.label
    c.count_with-names.result c.requires.state count c.if-names-gt-NAMES.true in
    port_by table c.args.line c.args.name.now c.args.receiver c.args.label false false true _
    (search rules) (search rules) over refl

-- two items clash
pub returns-then-branch-clause-exact : goal.returns-then-branch-clause-exact
returns-then-branch-clause-exact c =
    let table = c.args.self.now.table in
    let hs = line_holdings 0 0 table.lines in
    let given = subst (λ (s : State). IsGiven hs s.given) (sym c.self.view_is)
    c.requires.state.given in
    let count : c.count_with-names.result ≡ names_given c.args.receiver [] (held_more hs
    c.args.receiver (next_birth table) Receive) =
    c.count_with-names.ensures hs given
    ∙ ap (λ p. names_given c.args.receiver [] (held_more hs c.args.receiver p Receive))
    c.next-port.ensures.exact in
    let over = port_under c.args.self.now c.args.name.now c.args.receiver c.args.label
    c.count_with-names.result c.requires.state count c.if-names-gt-NAMES.false in
    port_by table c.args.line c.args.name.now c.args.receiver c.args.label false false false true
    (search rules) (search rules) over (search rules)

-- the port is there
pub returns-clause-exact : goal.returns-clause-exact
returns-clause-exact c =
    let table = c.args.self.now.table in
    let hs = line_holdings 0 0 table.lines in
    let given = subst (λ (s : State). IsGiven hs s.given) (sym c.self.view_is)
    c.requires.state.given in
    let count : c.count_with-names.result ≡ names_given c.args.receiver [] (held_more hs
    c.args.receiver (next_birth table) Receive) =
    c.count_with-names.ensures hs given
    ∙ ap (λ p. names_given c.args.receiver [] (held_more hs c.args.receiver p Receive))
    c.next-port.ensures.exact in
    let over = port_under c.args.self.now c.args.name.now c.args.receiver c.args.label
    c.count_with-names.result c.requires.state count c.if-names-gt-NAMES.false in
    port_by table c.args.line c.args.name.now c.args.receiver c.args.label false false false false
    (search rules) (search rules) over (search rules)
    ∙ ap (λ (s : State). Ok s.table) (sym c.in_ok-put_port.ensures.exact)

-- the state has one more port
pub returns-clause-kept : goal.returns-clause-kept
returns-clause-kept c =
    let table = c.args.self.now.table in
    let hs = line_holdings 0 0 table.lines in
    let given = subst (λ (s : State). IsGiven hs s.given) (sym c.self.view_is)
    c.requires.state.given in
    let count : c.count_with-names.result ≡ names_given c.args.receiver [] (held_more hs
    c.args.receiver (next_birth table) Receive) =
    c.count_with-names.ensures hs given
    ∙ ap (λ p. names_given c.args.receiver [] (held_more hs c.args.receiver p Receive))
    c.next-port.ensures.exact in
    let few = c.if-names-gt-NAMES.false in
    let own : names_given c.args.receiver [] (held_more hs c.args.receiver (next_birth table)
    Receive) ≤ 4096 = omega arith in
    subst IsState (sym c.in_ok-put_port.ensures.exact) (port_kept c.args.self.now c.args.name.now
    c.args.receiver c.args.label c.put_port.new.self.given c.requires.state (search rules)
    (search rules) (search rules) c.requires.there own c.in_ok-put_port.ensures.given)

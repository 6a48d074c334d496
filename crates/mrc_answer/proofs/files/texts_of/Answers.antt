use Rattle.std.proofs.Common.{◌≡◌, ℕ, List, [], ◌∷◌, ◌++◌, map, subst, Bor}
use Rattle.std.proofs.lemmas.Result.{err_from_is_err_and}
use Rattle.std.specs.List.{All}
use Rattle.mrc_files.specs.Files.{Held, Fits, IsFirstUnread}
use Rattle.mrc_files.proofs.FileLaws.{first_behind, first_within, one_of}
use Rattle.mrc_answer.proofs.files.texts_of.Goals as goal

-- the first that can't be read behind MIG files and a wiring that were read
behind_system : (held : Held) (defs given : List (Bor (List ℕ))) (wiring : List ℕ)
    (rest : List (List ℕ)) (file : List ℕ)
    → given ≡ defs
    → All (Fits held) (map (λ (f : Bor (List ℕ)). f.now) given)
    → Fits held wiring
    → IsFirstUnread held rest file
    → IsFirstUnread held (map (λ (f : Bor (List ℕ)). f.now) defs ++ (wiring ∷ rest)) file
behind_system held defs given wiring rest file same fit fits first =
    first_behind held _ (wiring ∷ rest) file
    (subst (λ (xs : List (Bor (List ℕ))). All (Fits held) (map (λ (f : Bor (List ℕ)). f.now) xs))
    same fit)
    (first_behind held (wiring ∷ []) rest file (one_of (Fits held) wiring fits) first)

pub returns-in_err-policy-clause-first : goal.returns-in_err-policy-clause-first
returns-in_err-policy-clause-first g c =
    let held = g.F.Folder.held c.args.folder.now in
    let p = err_from_is_err_and c.from_residual-in_err-policy.result
    c.from_residual-in_err-policy.ensures.1 in
    rw (p.1, p.2) (behind_system held _ _ c.args.names.now.wiring.now _ _
    c.as_slice.ensures.value c.in_ok-defs.ensures.fit c.in_ok-wiring.ensures.fits
    (first_within held _ _ _ c.in_err-policy.ensures.first))

pub returns-in_err-certificate-clause-first : goal.returns-in_err-certificate-clause-first
returns-in_err-certificate-clause-first g c =
    let held = g.F.Folder.held c.args.folder.now in
    let p = err_from_is_err_and c.from_residual-in_err-certificate.result
    c.from_residual-in_err-certificate.ensures.1 in
    rw (p.1, p.2) (behind_system held _ _ c.args.names.now.wiring.now _ _
    c.as_slice.ensures.value c.in_ok-defs.ensures.fit c.in_ok-wiring.ensures.fits
    (first_behind held _ _ _ c.in_ok-policy.ensures.fit
    (first_within held _ _ _ c.in_err-certificate.ensures.first)))

pub returns-in_err-script-clause-first : goal.returns-in_err-script-clause-first
returns-in_err-script-clause-first g c =
    let held = g.F.Folder.held c.args.folder.now in
    let p = err_from_is_err_and c.from_residual-in_err-script.result
    c.from_residual-in_err-script.ensures.1 in
    rw (p.1, p.2) (behind_system held _ _ c.args.names.now.wiring.now _ _
    c.as_slice.ensures.value c.in_ok-defs.ensures.fit c.in_ok-wiring.ensures.fits
    (first_behind held _ _ _ c.in_ok-policy.ensures.fit
    (first_behind held _ _ _ c.in_ok-certificate.ensures.fit c.in_err-script.ensures.first)))

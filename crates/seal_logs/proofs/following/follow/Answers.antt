use Rattle.std.proofs.Common.{◌≡◌, ◌<◌, ◌+◌, ℕ, Option, List, ◌++◌, length, take, refl, sym, subst, ◌∙◌, arith}
use Rattle.std.proofs.lemmas.Option.{same_Some}
use Rattle.seal_logs.specs.declared.PlaceRead.{PlaceRead}
use Rattle.seal_logs.specs.Reads.{reads_in, ReadsDeed, IsChain}
use Rattle.seal_logs.proofs.LatestLaws.{in_list, read_of}
use Rattle.seal_logs.proofs.ChainLaws.{chain_at, chain_whole, followed, follows_only}
use Rattle.seal_logs.proofs.following.follow.Goals.{then-at-sizes-via-then-at-sizes, then-at-sizes-via-else-at-sizes+then-at-limit}
use Rattle.seal_logs.proofs.following.follow.Goals as goal

pub returns-then-at-sizes-clause-broken : goal.returns-then-at-sizes-clause-broken
returns-then-at-sizes-clause-broken c e ks h =
    let v = c.loop-count.invariant in
    let there = chain_at c.args.sizes (reads_in c.args.sizes c.args.reads.now c.args.bank) c.args.generation c.loop-count.limit c.in-Some.at (v.only ks h).0
    (subst (λ (o : Option ℕ). IsChain c.args.sizes (reads_in c.args.sizes c.args.reads.now c.args.bank) c.args.generation c.loop-count.limit o (v.only ks h).0) c.in-Some.is (v.only ks h).1) in
    elim c.then-at-sizes.branch [
      | then-at-sizes-via-then-at-sizes w ↦ (let x = w.if-at-sizes.true in let y = there.0 in omega (arith, x, y))
      | then-at-sizes-via-else-at-sizes+then-at-limit w ↦ (let x = w.if-at-limit.true in let y = there.1.0 in omega (arith, x, y))
    ]

pub returns-in-None-deed_of-clause-broken : goal.returns-in-None-deed_of-clause-broken
returns-in-None-deed_of-clause-broken c e ks h =
    let v = c.loop-count.invariant in
    let there = chain_at c.args.sizes (reads_in c.args.sizes c.args.reads.now c.args.bank) c.args.generation c.loop-count.limit c.in-Some.at (v.only ks h).0
    (subst (λ (o : Option ℕ). IsChain c.args.sizes (reads_in c.args.sizes c.args.reads.now c.args.bank) c.args.generation c.loop-count.limit o (v.only ks h).0) c.in-Some.is (v.only ks h).1) in
    let lower : c.in-Some.at < c.args.sizes.places = (let b = v.bound in let y = there.1.0 in omega (arith, b, y)) in
    c.deed_of.ensures.none c.in-None-deed_of.is there.1.1.0
    (subst (λ (p : PlaceRead). ReadsDeed p c.args.generation there.1.1.0) (sym (read_of c.args.sizes c.args.reads.now c.args.bank c.in-Some.at _ (in_list c.args.sizes.banks c.args.sizes.places c.args.bank c.in-Some.at (length c.args.reads.now) c.requires.inside lower c.requires.fits))) there.1.1.1.0)

pub returns-in-None-clause-chain : goal.returns-in-None-clause-chain
returns-in-None-clause-chain c count e =
    chain_whole c.args.sizes (reads_in c.args.sizes c.args.reads.now c.args.bank) c.args.generation c.args.last c.loop-count.chain c.loop-count.limit c.loop-count.count count c.loop-count.next c.in-None.is (same_Some _ _ e) c.loop-count.invariant.done

pub loop-count-preserved : goal.loop-count-preserved
loop-count-preserved c =
    let v = c.loop-count.invariant in
    let deed = c.in-Some-deed_of.deed in
    let lower : c.in-Some.at < c.args.sizes.places = (let b = v.bound in omega (arith, b)) in
    let reads : ReadsDeed ((reads_in c.args.sizes c.args.reads.now c.args.bank) c.in-Some.at) c.args.generation deed =
    subst (λ (p : PlaceRead). ReadsDeed p c.args.generation deed) (read_of c.args.sizes c.args.reads.now c.args.bank c.in-Some.at _ (in_list c.args.sizes.banks c.args.sizes.places c.args.bank c.in-Some.at (length c.args.reads.now) c.requires.inside lower c.requires.fits)) (c.deed_of.ensures.some deed c.in-Some-deed_of.is) in
    record {
      done = followed c.args.sizes (reads_in c.args.sizes c.args.reads.now c.args.bank) c.args.generation c.args.last c.loop-count.chain c.loop-count.limit c.loop-count.count c.in-Some.at (c.loop-count.count + 1) deed refl (omega arith) (omega arith) (omega arith) reads
          (subst (λ (o : Option ℕ). (ks : List ℕ) → IsChain c.args.sizes (reads_in c.args.sizes c.args.reads.now c.args.bank) c.args.generation c.loop-count.limit o ks → IsChain c.args.sizes (reads_in c.args.sizes c.args.reads.now c.args.bank) c.args.generation c.args.sizes.places c.args.last (take c.loop-count.count c.loop-count.chain ++ ks)) c.in-Some.is v.done);
      only = follows_only c.args.sizes (reads_in c.args.sizes c.args.reads.now c.args.bank) c.args.generation c.args.last c.loop-count.chain c.loop-count.limit c.loop-count.count c.in-Some.at (c.loop-count.count + 1) deed refl (omega arith) (omega arith) (omega arith) reads
          (subst (λ (o : Option ℕ). (ks : List ℕ) → IsChain c.args.sizes (reads_in c.args.sizes c.args.reads.now c.args.bank) c.args.generation c.args.sizes.places c.args.last ks → (rest : List ℕ) × IsChain c.args.sizes (reads_in c.args.sizes c.args.reads.now c.args.bank) c.args.generation c.loop-count.limit o rest) c.in-Some.is v.only);
      bound = (let b = v.bound in omega (arith, b));
    }

pub returns-in-Some-next-clause-broken : goal.returns-in-Some-next-clause-broken
returns-in-Some-next-clause-broken c e ks h =
    let v = c.loop-count.invariant in
    let there = chain_at c.args.sizes (reads_in c.args.sizes c.args.reads.now c.args.bank) c.args.generation c.loop-count.limit c.in-Some-next.field-0 (v.only ks h).0
    (subst (λ (o : Option ℕ). IsChain c.args.sizes (reads_in c.args.sizes c.args.reads.now c.args.bank) c.args.generation c.loop-count.limit o (v.only ks h).0) c.in-Some-next.is (v.only ks h).1) in
    let b = v.bound in
    let y = there.1.0 in
    omega (arith, b, y, c.requires.room, c.loop-count.auto.chain)

pub returns-in-None-next-clause-chain : goal.returns-in-None-next-clause-chain
returns-in-None-next-clause-chain c count e =
    chain_whole c.args.sizes (reads_in c.args.sizes c.args.reads.now c.args.bank) c.args.generation c.args.last c.loop-count.chain c.loop-count.limit c.loop-count.count count c.loop-count.next c.in-None-next.is
    (let x : c.loop-count.count ≡ length c.loop-count.chain = omega arith in x ∙ same_Some _ _ e) c.loop-count.invariant.done

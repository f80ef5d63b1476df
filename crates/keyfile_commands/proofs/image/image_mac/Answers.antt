use Rattle.std.proofs.Common.{ℕ, ◌*◌, List, [], ◌++◌, length, replicate, ap, ◌∙◌, sym, append_assoc, append-nil}
use Rattle.std.specs.Int.{w32}
use Rattle.she_cmac.specs.Cmac.{cmac}
use Rattle.basics.specs.Numbers.{bytes_of}
use Rattle.basics.proofs.CallerLemmas.{to_be_bytes-is}
use Rattle.secure_boot.specs.Booting.{bootmac}
use Rattle.keyfile_commands.proofs.image.image_mac.Goals as goal

pub returns : goal.returns
unfolding bootmac
returns c =
    let key : List ℕ = c.args.key.now in
    let image : List ℕ = c.args.image.now in
    let zeros : List ℕ = replicate 12 0 in
    let bits : List ℕ = bytes_of 4 (8 * length image) in
    c.cmac_of_parts.ensures.value
    ∙ ap (λ k. cmac k (zeros ++ (c.to_be_bytes-bits.result ++ (image ++ [])))) c.expand.ensures.value
    ∙ ap (λ b. cmac key (zeros ++ (b ++ (image ++ [])))) (c.to_be_bytes-bits.ensures ∙ to_be_bytes-is w32 _)
    ∙ ap (λ i. cmac key (zeros ++ (bits ++ i))) (append-nil image)
    ∙ ap (cmac key) (sym (append_assoc zeros bits image))

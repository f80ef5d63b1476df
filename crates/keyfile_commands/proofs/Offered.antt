-- What the sources tell decides what the arguments ask for
use Rattle.std.proofs.Common.{◌≡◌, ◌∙◌, ℕ, List, length, Some, None, Result, refl, sym, ap, subst, arith, length-append}
use Rattle.program_edge.specs.declared.input.InputFault.{InputFault}
use Rattle.program_edge.specs.declared.input.InputFault.TheVariants as input
use Rattle.program_edge.specs.Inputs.{Reading, Lacks}
use Rattle.program_edge.proofs.CallerLemmas.{Offers-is, Offers-whole}
use Rattle.key_commands.specs.declared.tasks.Task.{Task}
use Rattle.key_commands.specs.declared.tasks.BadValue.{BadValue}
use Rattle.keyfile_commands.specs.declared.calls.KeyCall.{KeyCall}
use Rattle.keyfile_commands.specs.KeyFiles.{key_file_of}
use Rattle.keyfile_commands.specs.Rows.{KeyFileInputs, AsksKeys, AsksKeysBy, GivesKey, HasNoKey, LacksImageFile, ReadsImageFile}
use Rattle.keyfile_commands.specs.KeyFilesRuns.{OffersKey, OffersBootImage, OffersBy, OffersCall}

-- the key that a file tells is the one that it gives
pub same_key : (file : Reading) (key other : List ℕ) → OffersKey file key → GivesKey file other → other ≡ key
same_key file key other (bytes, offers, is) (read, whole, gives) =
    let same : read ≡ bytes = Offers-whole file bytes read offers whole in
    let both : Some other ≡ Some key = sym gives ∙ ap key_file_of same ∙ is in
    cc both

pub no_key_told : (file : Reading) (key : List ℕ) → OffersKey file key → ¬ HasNoKey file
no_key_told file key (bytes, offers, is) (read, whole, none) =
    let same : read ≡ bytes = Offers-whole file bytes read offers whole in
    let both : None ≡ Some key = sym none ∙ ap key_file_of same ∙ is in
    cc both

pub key_lacks : (file : Reading) (key : List ℕ) (fault : InputFault) → OffersKey file key → Lacks file fault → fault ≡ input.Memory
key_lacks file key fault (bytes, offers, is) lacks = Offers-is file bytes fault offers lacks

pub same_image : (file : Reading) (image other : List ℕ) → OffersBootImage file image → ReadsImageFile file other → other ≡ image
same_image file image other (told, some, short, well) whole = (whole.whole image told).0

pub image_lacks : (file : Reading) (image : List ℕ) (fault : InputFault) → OffersBootImage file image → LacksImageFile file fault → fault ≡ input.Memory
image_lacks file image input.ReadFault (told, some, short, well) (rose, within) = absurd (well rose)
image_lacks file image input.TooLong (told, some, short, well) (same, (bytes, more, came)) =
    let (rest, left, parts) = came.next image told in
    absurd (omega (arith, short, more, ap length parts, length-append bytes rest))
image_lacks file image input.Memory offers lacks = refl

asked_by : (i : KeyFileInputs) (call : KeyCall) (asked other : Result Task BadValue) → OffersBy call i asked → AsksKeysBy call i other → other ≡ asked
asked_by i call asked other offers asks = grind (arith, same_key, same_image)

-- the arguments ask for one thing alone
pub asks_one : (i : KeyFileInputs) (asked other : Result Task BadValue) → OffersCall i asked → AsksKeys i other → other ≡ asked
asks_one i asked other (call, named, offers) (also, is, asks) =
    let both : Some also ≡ Some call = sym is ∙ named in
    let same : also ≡ call = cc both in
    asked_by i call asked other offers (subst (λ (c : KeyCall). AsksKeysBy c i other) same asks)

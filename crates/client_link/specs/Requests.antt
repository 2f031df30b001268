-- What tells a browser from a client: its first bytes are those of a request of HTTP (RFC 9110, 9.3), a method and a space.
use Rattle.std.specs.Prelude.{ℕ, List, [], ◌∷◌, ◌==◌, if◌then◌else◌, codes}
use Rattle.client_link.specs.declared.request.Look.{Look}
use Rattle.client_link.specs.declared.request.Look.TheVariants.{Whole, Part, Other}

-- the methods, each with its space
unfoldable pub methods : List (List ℕ)
methods = codes "GET " ∷ codes "POST " ∷ codes "PUT " ∷ codes "HEAD " ∷ codes "OPTIONS " ∷ codes "DELETE " ∷ codes "PATCH " ∷ codes "CONNECT " ∷ codes "TRACE " ∷ []

-- Whether some bytes begin with a word: with the whole of it; or they are a part of it from its front, and may yet; or they do not.
abbrev pub look : List ℕ → List ℕ → Look
look bytes [] = Whole
look [] (w ∷ word) = Part
look (b ∷ bytes) (w ∷ word) = if b == w then look bytes word else Other

-- of two looks at the same bytes the one that says more
abbrev pub either : Look → Look → Look
either Whole y = Whole
either Part Whole = Whole
either Part y = Part
either Other y = y

-- whether some bytes begin with one of these words
abbrev pub look_all : List ℕ → List (List ℕ) → Look
look_all bytes [] = Other
look_all bytes (word ∷ words) = either (look bytes word) (look_all bytes words)

-- what a connection gives of the bytes that come: nothing where they begin with a method of HTTP and a space, else all
abbrev pub given_by : Look → List ℕ → List ℕ
given_by Whole bytes = []
given_by _ bytes = bytes

abbrev pub from_client : List ℕ → List ℕ
from_client bytes = given_by (look_all bytes methods) bytes

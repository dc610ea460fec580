mod Numbering
mod Ranges
mod RoundFacts
mod StintFacts
mod Seeing
mod Hinted
mod Scanning

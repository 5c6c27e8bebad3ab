mod FirstNamed
mod Bound
mod SeekCosts

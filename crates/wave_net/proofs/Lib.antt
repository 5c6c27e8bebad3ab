mod Alike
mod Tell
